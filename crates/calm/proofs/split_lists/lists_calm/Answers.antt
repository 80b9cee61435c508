-- `calm::split_lists::lists_calm`: the three tests, one by one. Assumes nothing.
use mathlib.Core.List.{[]}
use native.Mathlib.Omega.{arith}
use lib.ListN.{take, get_or}
use Rattle.calm.proofs.ListLaws.{few-children, shares-fail, minima-tell}
use Rattle.calm.proofs.split_lists.lists_calm.Goals as goal

pub returns-then-count-lt2 : goal.returns-then-count-lt2
returns-then-count-lt2 c =
    let a = c.args in
    let h = get_or a.heads.now a.i [] in
    let ss = take (get_or h 5 0) (get_or a.shares.now a.i []) in
    let ms = take (get_or h 6 0) (get_or a.minima.now a.i []) in
    few-children (get_or h 4 0) ss ms (omega arith)

pub returns-then-not-shares_calm : goal.returns-then-not-shares_calm
returns-then-not-shares_calm c =
    let a = c.args in
    let h = get_or a.heads.now a.i [] in
    let ss = take (get_or h 5 0) (get_or a.shares.now a.i []) in
    let ms = take (get_or h 6 0) (get_or a.minima.now a.i []) in
    shares-fail (get_or h 4 0) ss ms (omega arith) c.shares_calm.result c.shares_calm.ensures c.if-not-shares_calm.true

pub returns : goal.returns
returns c =
    let a = c.args in
    let h = get_or a.heads.now a.i [] in
    let ss = take (get_or h 5 0) (get_or a.shares.now a.i []) in
    let ms = take (get_or h 6 0) (get_or a.minima.now a.i []) in
    minima-tell (get_or h 4 0) ss ms (omega arith) c.shares_calm.result c.shares_calm.ensures c.if-not-shares_calm.false c.minima_calm.result c.minima_calm.ensures
