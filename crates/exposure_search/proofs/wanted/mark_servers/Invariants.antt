use Rattle.std.proofs.Common.{take}
use Rattle.exposure_search.specs.Relevance.{Keeps, BodiesMarked, IsMade}
use Rattle.exposure_search.proofs.wanted.mark_servers.Given as goal

-- the first rules are served
abbrev pub invariant-loop-rule : goal.invariant-loop-rule
invariant-loop-rule l = record { stays : Keeps l.fn.marks.items l.marks.items; served : BodiesMarked (take l.rule-index l.rules) l.next (IsMade l.given l.atoms) l.marks.items }
