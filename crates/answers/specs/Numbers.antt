-- A Told of the code, read as the rule's. Definitions only.
use Rattle.rules.specs.Refusals as Rule
use Rattle.answers.specs.declared.Told.{Told}

abbrev pub told_of : Told → Rule.Told
told_of t = Rule.told t.number t.first t.second
