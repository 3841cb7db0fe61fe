use Rattle.std.proofs.Common.{subst, Contains}
use Rattle.meaning.specs.declared.types.Term.TheVariants.{Var}
use Rattle.homomorphism.proofs.Heads.{variable_below}
use Rattle.homomorphism.proofs.head.is_there.Goals as goal

pub values_under-requires : goal.values_under-requires
values_under-requires c = λ x h. variable_below c.args.atom.now x _ (subst (λ z. Contains z (Var x)) c.as_slice.ensures h) c.requires
