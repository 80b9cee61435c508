-- `checks::validate::check_split`: the tests of a share and of a minimum. Assumes nothing.
use Rattle.rules.specs.Numbers.{share_ok, minimum_ok}
use Rattle.checks.proofs.validate.check_split.Given as goal

abbrev pub ghost-first_bad : goal.ghost-first_bad
ghost-first_bad a = share_ok

abbrev pub ghost-first_bad-2 : goal.ghost-first_bad-2
ghost-first_bad-2 a = minimum_ok
