use Rattle.std.proofs.Common.{◌≡◌, subst, [], ◌∷◌, ◌++◌}
use Rattle.std.specs.Prelude.{IfOk, IfNone, IfSome, OnErr}
use Rattle.std.specs.BTreeMap.{get}
use Rattle.std.specs.Ordering.{nat_cmp}
use Rattle.homomorphism.specs.Listed.{own_list, coded_list}
use Rattle.homomorphism.proofs.Coded.{coded_others}
use Rattle.homomorphism.proofs.coded_lists.CodedLists.note_coded.Goals as goal

pub returns-clause-noted : goal.returns-clause-noted
unfolding coded_list
returns-clause-noted c =
    subst (λ n. IfOk c.note_at.result (λ back. IfNone back
    (own_list c.args.key (get nat_cmp c.note_at.new.coded n)
    ≡ own_list c.args.key (get nat_cmp c.args.self.now.coded n) ++ c.args.number ∷ [])))
    c.key_code-code.ensures c.note_at.ensures.noted

pub returns-clause-taken : goal.returns-clause-taken
unfolding coded_list
returns-clause-taken c =
    subst (λ n. IfOk c.note_at.result (λ back. IfSome back (λ same. (same ≡ c.args.key)
    × (own_list c.args.key (get nat_cmp c.args.self.now.coded n) ≡ [])
    × (own_list c.args.key (get nat_cmp c.note_at.new.coded n) ≡ []))))
    c.key_code-code.ensures c.note_at.ensures.taken

pub returns-clause-refused : goal.returns-clause-refused
unfolding coded_list
returns-clause-refused c =
    subst (λ n. OnErr c.note_at.result
    (own_list c.args.key (get nat_cmp c.note_at.new.coded n) ≡ own_list c.args.key (get nat_cmp c.args.self.now.coded n)))
    c.key_code-code.ensures c.note_at.ensures.refused

pub returns-clause-apart : goal.returns-clause-apart
returns-clause-apart c = λ other differ.
    coded_others c.key_code-code.result c.args.self.now.coded c.note_at.new.coded other
    (c.note_at.ensures.others other differ) c.note_at.ensures.apart
