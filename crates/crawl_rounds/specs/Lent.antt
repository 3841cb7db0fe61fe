-- Classes whose inputs are lent.
use Rattle.std.specs.Prelude.{ℕ, List}
use denote.Ref.{Bor}
use Rattle.meaning.specs.declared.types.Method.{Method}
use Rattle.crawl_rounds.specs.Rounds.{Class}

-- the class of a relation and inputs that are lent
abbrev pub lent_class : ℕ × Bor (List ℕ) → Class
lent_class lent = (lent.0, lent.1.now)

-- the class of a method
abbrev pub class_of : Method → Class
class_of method = (method.rel, method.inputs)
