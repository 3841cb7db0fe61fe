-- What operands mean, and the faults of columns.
use Rattle.std.proofs.Common.{◌≡◌, ◌⊎◌, ℕ, List, [], ◌∷◌, ◌++◌, ap, subst, sym, ◌∙◌, refl, inl, inr, ⊎_elim, arith}
use Rattle.std.specs.Prelude.{Contains, Option, Some, None, slice_get}
use Rattle.std.specs.List.{AllZip}
use Rattle.lists.proofs.Members.{contains_here, contains_there, contains_cases, contains_got, contains_none}
use Rattle.meaning.specs.declared.types.Relation.{Relation}
use Rattle.meaning.specs.declared.types.Operand.{Operand}
use Rattle.meaning.specs.declared.types.Operand.TheVariants.{Column, Literal}
use Rattle.meaning.specs.declared.types.Condition.{Condition}
use Rattle.access_schema.specs.Names.{AllDiffer}
use Rattle.sql_select.specs.declared.named.Name.{Name}
use Rattle.sql_select.specs.declared.named.NamedOperand.{NamedOperand}
use Rattle.sql_select.specs.declared.named.NamedOperand.TheVariants as named
use Rattle.sql_select.specs.declared.named.NamedItem.{NamedItem}
use Rattle.sql_select.specs.declared.named.NamedFrom.{NamedFrom}
use Rattle.sql_select.specs.declared.named.NamedCondition.{NamedCondition}
use Rattle.sql_select.specs.declared.named.NamedSelect.{NamedSelect}
use Rattle.sql_select.specs.declared.named.NameFault.{NameFault}
use Rattle.sql_select.specs.declared.named.NameFault.TheVariants as fault
use Rattle.sql_select.specs.declared.columns.Found.{Found}
use Rattle.sql_select.specs.declared.columns.Found.TheVariants as found
use Rattle.sql_select.specs.declared.resolve.Meant.{Meant}
use Rattle.sql_select.specs.declared.resolve.Meant.TheVariants as meant
use Rattle.sql_select.specs.Names.{from_names, HasColumn, IsColumnAt, IsMeant, IsUnknown, IsAmbiguous, IsColumnFault, operands_of}
use Rattle.sql_select.specs.Resolving.{place_from, place_at, plain_meant, column_meant, prefixed_meant, meant_of, fault_in, earlier, column_fault, item_operands, condition_operands, with_meant, meant_items, with_both, meant_conditions, found_in}
use Rattle.sql_select.proofs.Earliest.{Answers, same_answer, either_answer}
use Rattle.sql_select.proofs.FromFaults.{Placed, place_says, found_at}
use Rattle.sql_select.proofs.Finding.{has_of, PlaceSays, place_at_says, IsFound, is_found}

module _ (relations : List Relation) (rels : List ℕ) (froms : List NamedFrom) where
  -- a fault of an operand
  abbrev pub OperandFault : NamedOperand → NameFault → Type 0
  OperandFault o (fault.Unknown offset) = IsUnknown relations rels froms o offset
  OperandFault o (fault.Ambiguous offset) = IsAmbiguous relations rels o offset

  -- an operand has a meaning and no fault, or one fault
  abbrev pub Says : NamedOperand → Meant → Type 0
  Says o (meant.Operand p) = IsMeant relations rels froms o p × ((f : NameFault) → OperandFault o f → ⊥)
  Says o (meant.Fault f) = OperandFault o f × ((g : NameFault) → OperandFault o g → g ≡ f)

  literal_says : (value : List ℕ) → Says (named.Literal value) (meant.Operand (Literal value))
  literal_says value = (refl, λ f is. none f is)
    where
      none : (f : NameFault) → OperandFault (named.Literal value) f → ⊥
      none (fault.Unknown offset) is = is
      none (fault.Ambiguous offset) is = is

  plain_says : (name : Name) (f : Found) → IsFound relations rels name.text f → Says (named.Plain name) (plain_meant name.offset f)
  plain_says name found.Nothing none = ((refl, none), λ g is. only g is)
    where
      only : (g : NameFault) → OperandFault (named.Plain name) g → g ≡ fault.Unknown name.offset
      only (fault.Unknown offset) (e, _) = ap (λ n. fault.Unknown n) (sym e)
      only (fault.Ambiguous offset) (e, first, second, ne, has, has') = absurd (none first has)
  plain_says name (found.One from column) (at, only) = ((at, only), λ g is. none g is)
    where
      none : (g : NameFault) → OperandFault (named.Plain name) g → ⊥
      none (fault.Unknown offset) (e, absent) = absent from (has_of relations rels name.text from column at)
      none (fault.Ambiguous offset) (e, first, second, ne, has, has') = ne (only first has ∙ sym (only second has'))
  plain_says name found.Many (first, second, ne, has, has') = ((refl, first, second, ne, has, has'), λ g is. only g is)
    where
      only : (g : NameFault) → OperandFault (named.Plain name) g → g ≡ fault.Ambiguous name.offset
      only (fault.Unknown offset) (e, none) = absurd (none first has)
      only (fault.Ambiguous offset) is = ap (λ n. fault.Ambiguous n) (sym is.0)

  prefixed_says : AllDiffer (from_names froms) → (prefix name : Name) (place : Option ℕ) → Placed 0 (from_names froms) prefix.text place →
      Says (named.Prefixed prefix name) (prefixed_meant relations rels prefix.offset name.text name.offset place)
  prefixed_says differ prefix name None absent = (inl (refl, absent), λ g is. only g is)
    where
      only : (g : NameFault) → OperandFault (named.Prefixed prefix name) g → g ≡ fault.Unknown prefix.offset
      only (fault.Unknown offset) is = ⊎_elim (λ (e, _). ap (λ n. fault.Unknown n) (sym e)) (λ (e, from, got, _). absurd (absent (contains_got (from_names froms) from prefix.text got))) is
      only (fault.Ambiguous offset) is = absurd is
  prefixed_says differ prefix name (Some from) placed = go (place_at relations (slice_get rels from) name.text) (place_at_says relations rels name.text from)
    where
      got : slice_get (from_names froms) from ≡ Some prefix.text
      got = found_at (from_names froms) prefix.text from placed

      there : Contains (from_names froms) prefix.text
      there = contains_got (from_names froms) from prefix.text got

      go : (place : Option ℕ) → PlaceSays relations rels name.text from place → Says (named.Prefixed prefix name) (column_meant name.offset from place)
      go None absent = (inr (refl, from, got, absent), λ g is. only g is)
        where
          only : (g : NameFault) → OperandFault (named.Prefixed prefix name) g → g ≡ fault.Unknown name.offset
          only (fault.Unknown offset) is = ⊎_elim (λ (e, never). absurd (never there)) (λ h. ap (λ n. fault.Unknown n) (sym h.0)) is
          only (fault.Ambiguous offset) is = absurd is
      go (Some column) at = ((got, at), λ g is. none g is)
        where
          none : (g : NameFault) → OperandFault (named.Prefixed prefix name) g → ⊥
          none (fault.Unknown offset) is = ⊎_elim (λ (e, never). never there)
              (λ (e, other, got', never). never (subst (λ k. HasColumn relations rels name.text k) (differ from other prefix.text got got') (has_of relations rels name.text from column at))) is
          none (fault.Ambiguous offset) is = is

  pub meant_says : AllDiffer (from_names froms) → (o : NamedOperand) → Says o (meant_of relations rels froms o)
  meant_says differ (named.Literal value) = literal_says value
  meant_says differ (named.Plain name) = plain_says name (found_in relations 0 found.Nothing rels name.text) (is_found relations rels name.text)
  meant_says differ (named.Prefixed prefix name) = prefixed_says differ prefix name (place_from 0 (from_names froms) prefix.text) (place_says 0 (from_names froms) prefix.text)

  fault_answer : (o : NamedOperand) (m : Meant) → Says o m → Answers (OperandFault o) (fault_in m)
  fault_answer o (meant.Operand p) (is, none) = none
  fault_answer o (meant.Fault f) (is, only) = (is, (λ other o. let e = only other o in rw e (omega arith)))

  -- a fault of some of these operands
  abbrev pub In : List NamedOperand → NameFault → Type 0
  In os f = (o : NamedOperand) × Contains os o × OperandFault o f

  module _ (differ : AllDiffer (from_names froms)) where
    all_answer : (os : List NamedOperand) (P : NameFault → Type 0) (first : Option NameFault) → Answers P first → Answers (λ f. P f ⊎ In os f) (column_fault relations rels froms first os)
    all_answer [] P first said = same_answer P (λ f. P f ⊎ In [] f) (λ f p. inl p) (λ f is. ⊎_elim (λ p. p) (λ (o, c, _). absurd (contains_none o c)) is) first said
    all_answer (o ∷ os) P first said =
        let m : Meant = meant_of relations rels froms o in
        let one = either_answer (OperandFault o) P (fault_in m) first (fault_answer o m (meant_says differ o)) said in
        let rest = all_answer os (λ f. P f ⊎ OperandFault o f) (earlier (fault_in m) first) one in
        same_answer (λ f. (P f ⊎ OperandFault o f) ⊎ In os f) (λ f. P f ⊎ In (o ∷ os) f)
        (λ f is. ⊎_elim (λ early. ⊎_elim (λ p. inl p) (λ h. inr (o, contains_here o os, h)) early) (λ (p, c, h). inr (p, contains_there o os p c, h)) is)
        (λ f is. ⊎_elim (λ p. inl (inl p)) (λ (p, c, h). ⊎_elim (λ same. inl (inr (subst (λ (q : NamedOperand). OperandFault q f) (sym same) h))) (λ later. inr (p, later, h)) (contains_cases o os p c)) is)
        (column_fault relations rels froms (earlier (fault_in m) first) os) rest

    pub operands_answer : (os : List NamedOperand) → Answers (In os) (column_fault relations rels froms None os)
    operands_answer os = same_answer (λ f. ⊥ ⊎ In os f) (In os) (λ f is. ⊎_elim (λ never. absurd never) (λ h. h) is) (λ f is. inr is) _ (all_answer os (λ f. ⊥) None (λ f never. never))

    -- an operand without a fault has a meaning
    meant_clean : (o : NamedOperand) → ((f : NameFault) → OperandFault o f → ⊥) → (p : Operand) × (meant_of relations rels froms o ≡ meant.Operand p) × IsMeant relations rels froms o p
    meant_clean o none = go (meant_of relations rels froms o) (meant_says differ o)
      where
        go : (m : Meant) → Says o m → (p : Operand) × (m ≡ meant.Operand p) × IsMeant relations rels froms o p
        go (meant.Operand p) (is, _) = (p, refl, is)
        go (meant.Fault f) (is, _) = absurd (none f is)

    pub items_meant : (items : List NamedItem) → ((f : NameFault) → In (item_operands items) f → ⊥) →
        AllZip (λ (item : NamedItem) (o : Operand). IsMeant relations rels froms item.operand o) items (meant_items relations rels froms items)
    items_meant [] none = tt
    items_meant (item ∷ items) none =
        let (p, e, is) = meant_clean item.operand (λ f h. none f (item.operand, contains_here item.operand (item_operands items), h)) in
        let rest = items_meant items (λ f (o, c, h). none f (o, contains_there item.operand (item_operands items) o c, h)) in
        subst (λ (m : Meant). AllZip (λ (item : NamedItem) (o : Operand). IsMeant relations rels froms item.operand o) (item ∷ items) (with_meant m (meant_items relations rels froms items))) (sym e) (is, rest)

    pub conditions_meant : (conditions : List NamedCondition) → ((f : NameFault) → In (condition_operands conditions) f → ⊥) →
        AllZip (λ (c : NamedCondition) (d : Condition). IsMeant relations rels froms c.left d.left × IsMeant relations rels froms c.right d.right) conditions (meant_conditions relations rels froms conditions)
    conditions_meant [] none = tt
    conditions_meant (c ∷ cs) none =
        let others : List NamedOperand = condition_operands cs in
        let (l, el, isl) = meant_clean c.left (λ f h. none f (c.left, contains_here c.left (c.right ∷ others), h)) in
        let (r, er, isr) = meant_clean c.right (λ f h. none f (c.right, contains_there c.left (c.right ∷ others) c.right (contains_here c.right others), h)) in
        let rest = conditions_meant cs (λ f (o, m, h). none f (o, contains_there c.left (c.right ∷ others) o (contains_there c.right others o m), h)) in
        subst (λ (m : Meant). AllZip (λ (c : NamedCondition) (d : Condition). IsMeant relations rels froms c.left d.left × IsMeant relations rels froms c.right d.right) (c ∷ cs) (with_both m (meant_of relations rels froms c.right) (meant_conditions relations rels froms cs))) (sym el)
        (subst (λ (m : Meant). AllZip (λ (c : NamedCondition) (d : Condition). IsMeant relations rels froms c.left d.left × IsMeant relations rels froms c.right d.right) (c ∷ cs) (with_both (meant.Operand l) m (meant_conditions relations rels froms cs))) (sym er) ((isl, isr), rest))

    -- an operand means one thing, and then has no fault
    pub one_meaning : (o : NamedOperand) (p q : Operand) → IsMeant relations rels froms o p → IsMeant relations rels froms o q → ((column other : ℕ) (from : ℕ) (name : List ℕ) → IsColumnAt relations rels from column name → IsColumnAt relations rels from other name → column ≡ other) → p ≡ q
    one_meaning (named.Literal v) (Literal a) (Literal b) e e' alike = ap (λ t. Literal t) (e ∙ sym e')
    one_meaning (named.Literal v) (Literal a) (Column f c) e is alike = absurd is
    one_meaning (named.Literal v) (Column f c) q is is' alike = absurd is
    one_meaning (named.Plain n) (Literal a) q is is' alike = absurd is
    one_meaning (named.Plain n) (Column f c) (Literal b) is is' alike = absurd is'
    one_meaning (named.Plain n) (Column f c) (Column g d) (at, only) (at', only') alike =
        let same : f ≡ g = only' f (has_of relations rels n.text f c at) in
        let column : c ≡ d = alike c d g n.text (subst (λ k. IsColumnAt relations rels k c n.text) same at) at' in
        ap (λ k. Column k c) same ∙ ap (λ k. Column g k) column
    one_meaning (named.Prefixed p n) (Literal a) q is is' alike = absurd is
    one_meaning (named.Prefixed p n) (Column f c) (Literal b) is is' alike = absurd is'
    one_meaning (named.Prefixed p n) (Column f c) (Column g d) (got, at) (got', at') alike =
        let same : f ≡ g = differ f g p.text got got' in
        let column : c ≡ d = alike c d g n.text (subst (λ k. IsColumnAt relations rels k c n.text) same at) at' in
        ap (λ k. Column k c) same ∙ ap (λ k. Column g k) column

    pub no_fault : (o : NamedOperand) (p : Operand) → IsMeant relations rels froms o p → (f : NameFault) → OperandFault o f → ⊥
    no_fault (named.Literal v) p is (fault.Unknown offset) h = h
    no_fault (named.Literal v) p is (fault.Ambiguous offset) h = h
    no_fault (named.Plain n) (Literal a) is f h = absurd is
    no_fault (named.Plain n) (Column from c) (at, only) (fault.Unknown offset) (e, none) = none from (has_of relations rels n.text from c at)
    no_fault (named.Plain n) (Column from c) (at, only) (fault.Ambiguous offset) (e, a, b, ne, has, has') = ne (only a has ∙ sym (only b has'))
    no_fault (named.Prefixed p n) (Literal a) is f h = absurd is
    no_fault (named.Prefixed p n) (Column from c) (got, at) (fault.Unknown offset) h = ⊎_elim (λ (e, never). never (contains_got (from_names froms) from p.text got))
        (λ (e, other, got', never). never (subst (λ k. HasColumn relations rels n.text k) (differ from other p.text got got') (has_of relations rels n.text from c at))) h
    no_fault (named.Prefixed p n) (Column from c) (got, at) (fault.Ambiguous offset) h = h

  -- the faults of a select's columns are those of its operands
  pub to_columns : (parts : NamedSelect) → parts.froms ≡ froms → (f : NameFault) → In (operands_of parts) f → IsColumnFault relations rels parts f
  to_columns parts e (fault.Unknown offset) (o, c, h) = (o, c, subst (λ fs. IsUnknown relations rels fs o offset) (sym e) h)
  to_columns parts e (fault.Ambiguous offset) is = is

  pub from_columns : (parts : NamedSelect) → parts.froms ≡ froms → (f : NameFault) → IsColumnFault relations rels parts f → In (operands_of parts) f
  from_columns parts e (fault.Unknown offset) (o, c, h) = (o, c, subst (λ fs. IsUnknown relations rels fs o offset) e h)
  from_columns parts e (fault.Ambiguous offset) is = is

  pub fault_append : (first : Option NameFault) (os ps : List NamedOperand) → column_fault relations rels froms first (os ++ ps) ≡ column_fault relations rels froms (column_fault relations rels froms first os) ps
  fault_append first [] ps = refl
  fault_append first (o ∷ os) ps = fault_append (earlier (fault_in (meant_of relations rels froms o)) first) os ps
