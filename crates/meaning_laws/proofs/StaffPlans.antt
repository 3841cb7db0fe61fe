-- The worked example of the staff: the answers to its query, its lawful plans, and the refutation where there is no rule.
use Rattle.std.proofs.Common.{◌≡◌, ◌⊎◌, ℕ, zero, suc, ◌+◌, ◌<◌, List, [], ◌∷◌, length, Some, refl, sym, ap, ◌∙◌, subst, ⊎_elim, arith}
use Rattle.std.specs.Prelude.{Contains, slice_get, slice_index_or, codes}
use Rattle.lists.proofs.Members.{contains_here, some_injective, contains_one}
use Rattle.meaning_laws.proofs.Example.{got_only, no_element}
use Rattle.meaning_laws.proofs.Closing.{accessible_closed}
use Rattle.meaning.specs.declared.types.Term.{Term}
use Rattle.meaning.specs.declared.types.Term.TheVariants.{Var, Const as Said}
use Rattle.meaning.specs.declared.types.Operand.{Operand}
use Rattle.meaning.specs.declared.types.Operand.TheVariants.{Column, Literal}
use Rattle.meaning.specs.declared.types.Place.TheVariants.{Const, Col, New}
use Rattle.meaning.specs.declared.types.Out.{Out}
use Rattle.meaning.specs.declared.types.Atom.{Atom}
use Rattle.meaning.specs.declared.types.Method.{Method}
use Rattle.meaning.specs.declared.types.Relation.{Relation}
use Rattle.meaning.specs.declared.types.Condition.{Condition}
use Rattle.meaning.specs.declared.types.Fact.{Fact}
use Rattle.meaning.specs.declared.types.Branch.{Branch}
use Rattle.meaning.specs.Values.{Value, Row}
use Rattle.meaning.specs.Instances.{FitsRelation}
use Rattle.meaning.specs.Answers.{IsChoice, operand_value, AnswersSelect, Answers}
use Rattle.meaning.specs.Access.{CanAccess}
use Rattle.meaning.specs.Plans.{IsMethod, IsLawfulOut, IsLawfulBranch, IsLawful}
use Rattle.meaning.specs.Rows.{IsRow}
use Rattle.meaning.specs.declared.types.Out.TheVariants.{Col as Made}
use Rattle.meaning.specs.Claims.{IsModel, IsEquivalent, Refutes}
use Rattle.meaning.specs.Costs.{IsCost}
use Rattle.meaning.specs.Conjunctive.{AreJoined, given, alike, turned, chained, OperandFits, term_of, IsConjunctive}
use Rattle.meaning_laws.specs.Staff.{profinfo, udirect, prof_by_eid, all_direct, staff, ruleless, smith, smiths, smiths_statement, smiths_query, known, profile, entry, office, smiths_branch, smiths_plan, guessing_plan, careless_plan, adding, unreachable, unreachable_answer}
use Rattle.meaning_laws.proofs.StaffOffice.{each_of, one_of, value_at, byte_at, entry_no_profile, fits_profile, fits_entry, one, first_onum, meets_by, methods_are, one_no_zero, number_known}

abbrev row_of : Value → Value → Row
row_of v w = v ∷ w ∷ []

-- the answers
pub smith_answers : Answers smiths_statement office (row_of one first_onum)
smith_answers = (
  smiths,
  contains_here smiths [],
  (
    (one ∷ first_onum ∷ smith ∷ []) ∷ [],
    ((0, omega arith, refl), tt),
    (λ condition c. subst (λ (d : Condition). operand_value ((one ∷ first_onum ∷ smith ∷ []) ∷ []) d.left ≡ operand_value ((one ∷ first_onum ∷ smith ∷ []) ∷ []) d.right) (contains_one (record { left = Column 0 2; right = Literal smith }) condition c) refl),
    refl,
  ),
)

-- an answer's fact has the name
named_smith : (facts : List Fact) (row : Row) → Answers smiths_statement facts row → (r : Row) × Contains facts (record { rel = 0; row = r }) × (slice_index_or r 2 [] ≡ smith)
named_smith facts row (select, among, answer) = go (subst (λ s. AnswersSelect s facts row) (sym (contains_one smiths select among)) answer)
  where
    go : AnswersSelect smiths facts row → (r : Row) × Contains facts (record { rel = 0; row = r }) × (slice_index_or r 2 [] ≡ smith)
    go (rows, choice, conditions, e) = chosen rows choice (conditions (record { left = Column 0 2; right = Literal smith }) (0, omega arith, refl))
      where
        chosen : (rows : List Row) → IsChoice facts (0 ∷ []) rows → operand_value rows (Column 0 2) ≡ smith → (r : Row) × Contains facts (record { rel = 0; row = r }) × (slice_index_or r 2 [] ≡ smith)
        chosen [] choice is = absurd choice
        chosen (r ∷ []) (holds, choice) is = (r, holds, is)
        chosen (r ∷ s ∷ rows) (holds, choice) is = absurd choice

pub other_name_does_not_answer : Answers smiths_statement adding (codes "_1" ∷ codes "_3" ∷ []) → ⊥
other_name_does_not_answer answer =
    let (r, holds, is) = named_smith adding (codes "_1" ∷ codes "_3" ∷ []) answer in
    ⊎_elim (λ s. let name : codes "_4" ≡ slice_index_or r 2 [] = ap (λ (f : Fact). slice_index_or f.row 2 []) s in clash (byte_at (codes "_4") smith 0 (name ∙ is)))
    (λ c. ⊎_elim (λ s. one_no_zero (ap (λ (f : Fact). f.rel) s)) (λ c. ⊎_elim (λ s. one_no_zero (ap (λ (f : Fact). f.rel) s)) (λ c. c) c) c) (one_of adding (record { rel = 0; row = r }) holds)
  where
    clash : ◌≡◌ {A = ℕ} 95 115 → ⊥
    clash e = omega arith

-- the conjunctive form
abbrev pub the_atom : Atom
the_atom = record { rel = 0; terms = Var 0 ∷ Var 1 ∷ Said smith ∷ [] }

name_of : Term → Operand
name_of (Var k) = Column 0 k
name_of (Said text) = Literal text

named_by : (o : Operand) → OperandFits staff smiths o → AreJoined smiths.conditions o (name_of (term_of (the_atom ∷ []) o))
unfolding name_of
named_by (Literal text) fits = alike (Literal text)
named_by (Column from column) (rel, relation, got, got', below) =
    let (first, is_rel) = got_only 0 rel from got in
    let its : profinfo ≡ relation = some_injective profinfo relation (subst (λ n. slice_get staff.relations n ≡ Some relation) (sym is_rel) got') in
    let long : column < 3 = subst (λ (x : Relation). column < length x.columns) (sym its) below in
    subst (λ f. AreJoined smiths.conditions (Column f column) (name_of (term_of (the_atom ∷ []) (Column f column)))) (sym first) (each column long)
  where
    each : (c : ℕ) → c < 3 → AreJoined smiths.conditions (Column 0 c) (name_of (term_of (the_atom ∷ []) (Column 0 c)))
    each zero l = alike (Column 0 0)
    each (suc zero) l = alike (Column 0 1)
    each (suc (suc zero)) l = given (record { left = Column 0 2; right = Literal smith }) (0, omega arith, refl)
    each (suc (suc (suc c))) l = absurd (omega arith)

pub smiths_form : IsConjunctive staff smiths smiths_query
smiths_form = record {
  atoms = ((refl, record { relation = profinfo; there = refl; width = refl }), tt);
  joined = λ condition c. subst (λ (d : Condition). term_of (the_atom ∷ []) d.left ≡ term_of (the_atom ∷ []) d.right) (contains_one (record { left = Column 0 2; right = Literal smith }) condition c) refl;
  only = λ o p fits fits' e. chained (named_by o fits) (subst (λ t. AreJoined smiths.conditions (name_of t) p) (sym e) (turned (named_by p fits')));
  head = refl;
}

-- lawful plans
input_first : (p : ℕ) → Contains prof_by_eid.inputs (p + 1) → ⊥
input_first p c = let e : 0 ≡ p + 1 = contains_one 0 (p + 1) c in omega arith

pub smiths_plan_is_lawful : IsLawful smiths_plan staff known
smiths_plan_is_lawful branch c = subst (λ (b : Branch). (length b.output ≡ 2) × IsLawfulBranch staff known b) (contains_one smiths_branch branch c) (refl, lawful)
  where
    outs : (out : Out) → Contains smiths_branch.output out → IsLawfulOut known 2 out
    outs = each_of (IsLawfulOut known 2) smiths_branch.output (omega arith, (omega arith, tt))

    lawful : IsLawfulBranch staff known smiths_branch
    lawful = (
      all_direct,
      record {
        named = ((1, omega arith, refl), refl);
        arity = record { relation = udirect; there = refl; width = refl };
        places = ((λ c. no_element c), ((0, omega arith, refl), tt));
      },
      (
        prof_by_eid,
        record {
          named = ((0, omega arith, refl), refl);
          arity = record { relation = profinfo; there = refl; width = refl };
          places = (omega arith, (λ c. omega arith), ((λ c. input_first 0 c), ((0, omega arith, refl), tt)));
        },
        outs,
      ),
    )

-- the method of a name
pub keyed_name : (m : Method) → IsMethod staff (codes "prof_by_eid") m → prof_by_eid ≡ m
keyed_name m named = methods_are (λ n. n.name ≡ codes "prof_by_eid" → prof_by_eid ≡ n) (λ e. refl) (λ e. absurd (clash (byte_at (codes "all_direct") (codes "prof_by_eid") 0 e))) m named.0 named.1
  where
    clash : ◌≡◌ {A = ℕ} 97 112 → ⊥
    clash e = omega arith

pub direct_name : (m : Method) → IsMethod staff (codes "all_direct") m → all_direct ≡ m
direct_name m named = methods_are (λ n. n.name ≡ codes "all_direct" → all_direct ≡ n) (λ e. absurd (clash (byte_at (codes "prof_by_eid") (codes "all_direct") 0 e))) (λ e. refl) m named.0 named.1
  where
    clash : ◌≡◌ {A = ℕ} 112 97 → ⊥
    clash e = omega arith

pub guessing_is_not_lawful : IsLawful guessing_plan staff known → ⊥
guessing_is_not_lawful lawful =
    let (long, (method, step, rest)) = lawful (record { steps = record { method = codes "prof_by_eid"; places = New ∷ New ∷ Const smith ∷ [] } ∷ []; output = smiths_branch.output }) (0, omega arith, refl) in
    step.places.0 (subst (λ (m : Method). Contains m.inputs 0) (keyed_name method step.named) (0, omega arith, refl))

pub smiths_plan_has_the_row : IsRow staff smiths_plan office (row_of one first_onum)
smiths_plan_has_the_row = (
  smiths_branch,
  (0, omega arith, refl),
  (
    one ∷ first_onum ∷ [],
    (
      one ∷ [],
      record { method = all_direct; fact = entry one smith; named = ((1, omega arith, refl), refl); of_relation = refl; holds = (2, omega arith, refl); joins = (refl, refl) },
      (
        one ∷ first_onum ∷ [],
        record { method = prof_by_eid; fact = profile one first_onum smith; named = ((0, omega arith, refl), refl); of_relation = refl; holds = (0, omega arith, refl); joins = (refl, (refl, refl)) },
        refl,
      ),
    ),
    (refl, (refl, tt)),
  ),
)

pub smiths_plan_costs_seven : IsCost staff smiths_branch 7
smiths_plan_costs_seven = (all_direct, 2, ((1, omega arith, refl), refl), (prof_by_eid, 0, ((0, omega arith, refl), refl), refl, refl), refl)

-- the careless plan
abbrev careless_branch : Branch
careless_branch = record {
  steps = record { method = codes "all_direct"; places = New ∷ New ∷ [] } ∷ record { method = codes "prof_by_eid"; places = Col 0 ∷ New ∷ New ∷ [] } ∷ [];
  output = Made 0 ∷ Made 2 ∷ [];
}

pub careless_is_lawful : IsLawful careless_plan staff known
careless_is_lawful branch c = subst (λ (b : Branch). (length b.output ≡ 2) × IsLawfulBranch staff known b) (contains_one careless_branch branch c) (refl, lawful)
  where
    outs : (out : Out) → Contains careless_branch.output out → IsLawfulOut known 4 out
    outs = each_of (IsLawfulOut known 4) careless_branch.output (omega arith, (omega arith, tt))

    lawful : IsLawfulBranch staff known careless_branch
    lawful = (
      all_direct,
      record {
        named = ((1, omega arith, refl), refl);
        arity = record { relation = udirect; there = refl; width = refl };
        places = ((λ c. no_element c), ((λ c. no_element c), tt));
      },
      (
        prof_by_eid,
        record {
          named = ((0, omega arith, refl), refl);
          arity = record { relation = profinfo; there = refl; width = refl };
          places = (omega arith, (λ c. omega arith), ((λ c. input_first 0 c), ((λ c. input_first 1 c), tt)));
        },
        outs,
      ),
    )

pub adding_is_a_model : IsModel staff adding
adding_is_a_model = record {
  fits = each_of (λ f. FitsRelation staff f.rel f.row) adding (fits_profile (codes "_1") (codes "_3") (codes "_4"), (fits_entry (codes "_1") (codes "_2"), (fits_entry (codes "_1") (codes "_4"), tt)));
  meets = meets_by adding has;
}
  where
    has : (e o l : Value) → Contains adding (profile e o l) → Contains adding (entry e l)
    has e o l c =
        ⊎_elim (λ s. subst (λ v. Contains adding (entry v l)) (value_at (profile (codes "_1") (codes "_3") (codes "_4")) (profile e o l) 0 s)
        (subst (λ v. Contains adding (entry (codes "_1") v)) (value_at (profile (codes "_1") (codes "_3") (codes "_4")) (profile e o l) 2 s) (2, omega arith, refl)))
        (λ c. ⊎_elim (λ s. entry_no_profile (codes "_1") (codes "_2") e o l s) (λ c. ⊎_elim (λ s. entry_no_profile (codes "_1") (codes "_4") e o l s) (λ c. absurd c) c) c)
        (one_of adding (profile e o l) c)

pub careless_has_the_row : IsRow staff careless_plan adding (codes "_1" ∷ codes "_3" ∷ [])
careless_has_the_row = (
  careless_branch,
  (0, omega arith, refl),
  (
    codes "_1" ∷ codes "_2" ∷ codes "_3" ∷ codes "_4" ∷ [],
    (
      codes "_1" ∷ codes "_2" ∷ [],
      record { method = all_direct; fact = entry (codes "_1") (codes "_2"); named = ((1, omega arith, refl), refl); of_relation = refl; holds = (1, omega arith, refl); joins = refl },
      (
        codes "_1" ∷ codes "_2" ∷ codes "_3" ∷ codes "_4" ∷ [],
        record { method = prof_by_eid; fact = profile (codes "_1") (codes "_3") (codes "_4"); named = ((0, omega arith, refl), refl); of_relation = refl; holds = (0, omega arith, refl); joins = (refl, refl) },
        refl,
      ),
    ),
    (refl, (refl, tt)),
  ),
)

pub careless_is_not_equivalent : IsEquivalent careless_plan smiths_statement staff → ⊥
careless_is_not_equivalent same = other_name_does_not_answer (same.sound adding (codes "_1" ∷ codes "_3" ∷ []) adding_is_a_model careless_has_the_row)

-- the pair where there is no rule
abbrev lone_profile : Fact
lone_profile = profile (codes "_1") (codes "_2") smith

no_access : (fact : Fact) → Contains unreachable fact → CanAccess ruleless known [] fact → Contains [] fact
no_access fact c access =
    let same : lone_profile ≡ fact = contains_one lone_profile fact c in
    let its : CanAccess ruleless known [] lone_profile = subst (λ f. CanAccess ruleless known [] f) (sym same) access in
    let plain : CanAccess staff known [] lone_profile = record { method = its.method; of_schema = its.of_schema; of_relation = its.of_relation; inputs = its.inputs } in
    ⊎_elim (λ k. absurd (clash (byte_at smith (codes "_1") 0 (contains_one smith (codes "_1") k)))) (λ (f, d, i). absurd (no_element d)) (number_known known [] (codes "_1") (codes "_2") smith plain)
  where
    clash : ◌≡◌ {A = ℕ} 115 95 → ⊥
    clash e = omega arith

pub unreachable_refutes : Refutes ruleless known smiths_statement unreachable [] unreachable_answer
unreachable_refutes = record {
  first_meets = record {
    fits = each_of (λ f. FitsRelation ruleless f.rel f.row) unreachable (record { relation = profinfo; there = refl; width = refl }, tt);
    meets = λ rule c. absurd (no_element c);
  };
  second_meets = record { fits = λ fact c. absurd (no_element c); meets = λ rule c. absurd (no_element c) };
  included = λ fact (earlier, path). absurd (no_element (accessible_closed ruleless known unreachable [] no_access (fact ∷ earlier) path fact (contains_here fact earlier)));
  answered = (
    smiths,
    contains_here smiths [],
    (
      (codes "_1" ∷ codes "_2" ∷ smith ∷ []) ∷ [],
      ((0, omega arith, refl), tt),
      (λ condition c. subst (λ (d : Condition). operand_value ((codes "_1" ∷ codes "_2" ∷ smith ∷ []) ∷ []) d.left ≡ operand_value ((codes "_1" ∷ codes "_2" ∷ smith ∷ []) ∷ []) d.right) (contains_one (record { left = Column 0 2; right = Literal smith }) condition c) refl),
      refl,
    ),
  );
  not_answered = λ answer. let (r, holds, is) = named_smith [] unreachable_answer answer in no_element holds;
}

-- a plan that is wider than its branch, and a fact that is shorter than its relation
pub wide_is_not_lawful : IsLawful (record { width = 3; branches = smiths_branch ∷ [] }) staff known → ⊥
wide_is_not_lawful lawful = let two_three : ◌≡◌ {A = ℕ} 2 3 = (lawful smiths_branch (contains_here smiths_branch [])).0 in omega arith
