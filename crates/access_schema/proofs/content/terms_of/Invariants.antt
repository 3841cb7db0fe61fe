use Rattle.std.proofs.Common.{◌≡◌, map, take}
use Rattle.access_schema.specs.Content.{term_of}
use Rattle.access_schema.proofs.content.terms_of.Given as goal

-- the terms so far
abbrev pub invariant-loop-term : goal.invariant-loop-term
invariant-loop-term l = l.made.items ≡ map (term_of l.variables) (take l.term-index l.terms)
