use Rattle.access_schema.specs.Meaning.{meaning_of}
use Rattle.exposure_search.specs.Relevance.{Keeps, IsFollowing}
use Rattle.exposure_search.proofs.relevance.Marking.follow_all.Given as goal

-- what is marked waits or was followed
abbrev pub invariant-loop : goal.invariant-loop
invariant-loop l = record { stays : Keeps l.fn.self.marks.items l.self.marks.items; following : IsFollowing (meaning_of l.schema) l.proof.constants l.proof.end.base l.self }
