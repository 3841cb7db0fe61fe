use Rattle.std.proofs.Common.{arith, refl, inl}
use Rattle.homomorphism.proofs.Binding.{reached_start, reached_short, fits_at, more_at, all_at, some_left, no_left}
use Rattle.homomorphism.proofs.Touching.{touched_more, inside_rest}
use Rattle.homomorphism.proofs.bind.bind_all.Goals as goal

pub loop-left-init : goal.loop-left-init
loop-left-init c = record {
  reached = reached_start _ _ _ c.requires;
  inside = λ t h. h;
  touched = (refl, λ x. inl refl);
}

pub returns-in_default-other-clause-no : goal.returns-in_default-other-clause-no
returns-in_default-other-clause-no c = λ no. reached_short _ _ _ _ _ _ c.loop-left.invariant.reached (λ e. omega (arith, e, c.in-len1-up.len_at_least, c.in_default-other.len_below))

pub bind-requires : goal.bind-requires
bind-requires c = fits_at _ _ _ _ _ _ c.loop-left.invariant.reached _ c.in-len1-up.len_at_least c.term-item.is

pub loop-left-preserved : goal.loop-left-preserved
loop-left-preserved c = record {
  reached = more_at _ _ _ _ _ _ c.loop-left.invariant.reached _ _ c.in-len1-up.len_at_least c.term-item.is c.in-len1-up-other.len_at_least c.val-item.is _ (c.in_ok-bind.ensures.yes c.if-not-branch.false);
  inside = inside_rest _ _ _ c.loop-left.invariant.inside c.in-len1-up.len_at_least c.term-item.is;
  touched = touched_more _ _ _ _ _ _ c.loop-left.invariant.inside c.in-len1-up.len_at_least c.term-item.is c.loop-left.invariant.touched c.bind.ensures.touched;
}

pub returns-clause-yes : goal.returns-clause-yes
returns-clause-yes c = λ yes. all_at _ _ _ _ _ _ c.loop-left.invariant.reached c.in_default.len_below (no_left _ _ c.is_empty.ensures yes)

pub returns-clause-no : goal.returns-clause-no
returns-clause-no c = λ no. reached_short _ _ _ _ _ _ c.loop-left.invariant.reached (λ e. let some = some_left _ _ c.is_empty.ensures no in omega (arith, e, some, c.in_default.len_below))
