use Rattle.std.proofs.Common.{◌≡◌, take}
use Rattle.std.specs.Prelude.{map}
use Rattle.meaning.specs.declared.types.Method.{Method}
use Rattle.crawl.proofs.lanes.all_relations.Given as goal

-- the relations of the methods so far
abbrev pub invariant-loop-method : goal.invariant-loop-method
invariant-loop-method l = l.rels.items ≡ map (λ (method : Method). method.rel) (take l.method-index l.methods)
