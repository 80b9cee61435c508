-- `lists::get` reads the entries in use alone. Assumes nothing.
use Rattle.std.proofs.Common.{rules, ◌≡◌, ◌≤◌, ◌<◌, arith, length}
use Rattle.lists.specs.Places.{get_d-used, get_d-unused, get_d_past}
use Rattle.lists.proofs.get.Goals as goal

pub returns-then-l-i : goal.returns-then-l-i
returns-then-l-i g c =
    let a = c.args in
    get_d-unused a.l.len a.l.at a.i a.other (search rules)

pub returns-then-i-ge16 : goal.returns-then-i-ge16
returns-then-i-ge16 g c =
    let a = c.args in
    let s : length a.l.at ≡ 16 = search rules in
    let h : length a.l.at ≤ a.i = omega arith in
    get_d_past a.l.len a.l.at a.i a.other h

pub returns : goal.returns
returns g c =
    let a = c.args in
    let s : length a.l.at ≡ 16 = search rules in
    let h : a.i < length a.l.at = omega arith in
    get_d-used a.l.len a.l.at a.i a.other _ (search rules) h
