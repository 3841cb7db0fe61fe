-- Names stand for one select at most, and then have no fault.
use Rattle.std.proofs.Common.{◌≡◌, ℕ, List, [], ◌∷◌, ap, subst, sym, ◌∙◌, refl, ⊎_elim}
use Rattle.std.specs.Prelude.{Contains, Some, slice_get}
use Rattle.std.specs.List.{AllZip}
use Rattle.std.proofs.lemmas.List.Elements.{Contains-append_cases}
use Rattle.lists.proofs.Members.{contains_cases, contains_got, some_injective, contains_none}
use Rattle.meaning.specs.declared.types.Relation.{Relation}
use Rattle.meaning.specs.declared.types.Operand.{Operand}
use Rattle.meaning.specs.declared.types.Condition.{Condition}
use Rattle.meaning.specs.declared.types.Select.{Select}
use Rattle.access_schema.specs.Invariant.{AreRelations}
use Rattle.sql_select.specs.declared.named.NamedOperand.{NamedOperand}
use Rattle.sql_select.specs.declared.named.NamedItem.{NamedItem}
use Rattle.sql_select.specs.declared.named.NamedCondition.{NamedCondition}
use Rattle.sql_select.specs.declared.named.NamedSelect.{NamedSelect}
use Rattle.sql_select.specs.declared.named.NameFault.{NameFault}
use Rattle.sql_select.specs.Names.{AreFroms, IsColumnAt, IsMeant, IsMeaning, IsFromFault, IsColumnFault, IsFirst, IsNameFault, operands_of}
use Rattle.sql_select.specs.Resolving.{item_operands, condition_operands}
use Rattle.sql_select.proofs.Earliest.{one_first}
use Rattle.sql_select.proofs.FromFaults.{no_from_fault, one_rels}
use Rattle.sql_select.proofs.ColumnFaults.{one_meaning, no_fault, from_columns}

-- lists that are related place by place to one list are one, where the relation has one value
zip_one : {A B : Type 0} (R : A → B → Type 0) → ((x : A) (y z : B) → R x y → R x z → y ≡ z) → (xs : List A) (ys zs : List B) → AllZip R xs ys → AllZip R xs zs → ys ≡ zs
zip_one R one [] [] [] a b = refl
zip_one R one [] [] (z ∷ zs) a b = absurd b
zip_one R one [] (y ∷ ys) zs a b = absurd a
zip_one R one (x ∷ xs) [] zs a b = absurd a
zip_one R one (x ∷ xs) (y ∷ ys) [] a b = absurd b
zip_one R one (x ∷ xs) (y ∷ ys) (z ∷ zs) (h, a) (h', b) = ap (λ w. w ∷ ys) (one x y z h h') ∙ ap (λ ws. z ∷ ws) (zip_one R one xs ys zs a b)

module _ (relations : List Relation) (are : AreRelations relations) where
  -- a name is that of one column
  one_column : (rels : List ℕ) (column other from : ℕ) (name : List ℕ) → IsColumnAt relations rels from column name → IsColumnAt relations rels from other name → column ≡ other
  one_column rels column other from name (rel, relation, got, got', at) (rel', relation', has, has', at') =
      let same : rel' ≡ rel = some_injective rel' rel (sym has ∙ got) in
      let is : relation' ≡ relation = some_injective relation' relation (sym has' ∙ ap (λ k. slice_get relations k) same ∙ got') in
      let columns = are.columns relation (contains_got relations rel relation got') in
      columns.differ column other name at (subst (λ (r : Relation). slice_get r.columns other ≡ Some name) is at')

  module _ (parts : NamedSelect) where
    one_froms : (rels rels' : List ℕ) → AreFroms relations parts.froms rels → AreFroms relations parts.froms rels' → rels ≡ rels'
    one_froms rels rels' f f' = one_rels relations parts.froms rels rels' are.differ f f'

    pub one_select : (s t : Select) → IsMeaning relations parts s → IsMeaning relations parts t → s ≡ t
    one_select s t is is' =
        let rels : t.froms ≡ s.froms = one_froms t.froms s.froms is'.froms is.froms in
        let means : NamedOperand → Operand → Type 0 = IsMeant relations s.froms parts.froms in
        let one : (o : NamedOperand) (p q : Operand) → means o p → means o q → p ≡ q = λ o p q m m'. one_meaning relations s.froms parts.froms is.froms.differ o p q m m' (one_column s.froms) in
        let items : s.items ≡ t.items = zip_one (λ (item : NamedItem) (o : Operand). IsMeant relations s.froms parts.froms item.operand o) (λ item p q m m'. one item.operand p q m m') parts.items s.items t.items is.items
        (subst (λ rs. AllZip (λ (item : NamedItem) (o : Operand). IsMeant relations rs parts.froms item.operand o) parts.items t.items) rels is'.items) in
        let conditions : s.conditions ≡ t.conditions = zip_one (λ (c : NamedCondition) (d : Condition). IsMeant relations s.froms parts.froms c.left d.left × IsMeant relations s.froms parts.froms c.right d.right)
        (λ c d e (l, r) (l', r'). one_condition d e (one c.left d.left e.left l l') (one c.right d.right e.right r r')) parts.conditions s.conditions t.conditions is.conditions
        (subst (λ rs. AllZip (λ (c : NamedCondition) (d : Condition). IsMeant relations rs parts.froms c.left d.left × IsMeant relations rs parts.froms c.right d.right) parts.conditions t.conditions) rels is'.conditions) in
        same_select s t (sym rels) conditions items (is.names ∙ sym is'.names)
      where
        one_condition : (d e : Condition) → d.left ≡ e.left → d.right ≡ e.right → d ≡ e
        one_condition d e l r = ◌∙◌ {A = Condition} (ap (λ (o : Operand). record { left = o; right = d.right }) l) (ap (λ (o : Operand). record { left = e.left; right = o }) r)

        same_select : (s t : Select) → s.froms ≡ t.froms → s.conditions ≡ t.conditions → s.items ≡ t.items → s.names ≡ t.names → s ≡ t
        same_select s t f c i n =
            let first : ◌≡◌ {A = Select} (record { froms = s.froms; conditions = s.conditions; items = s.items; names = s.names }) (record { froms = t.froms; conditions = s.conditions; items = s.items; names = s.names }) = ap (λ (x : List ℕ). record { froms = x; conditions = s.conditions; items = s.items; names = s.names }) f in
            let second : ◌≡◌ {A = Select} (record { froms = t.froms; conditions = s.conditions; items = s.items; names = s.names }) (record { froms = t.froms; conditions = t.conditions; items = s.items; names = s.names }) = ap (λ (x : List Condition). record { froms = t.froms; conditions = x; items = s.items; names = s.names }) c in
            let third : ◌≡◌ {A = Select} (record { froms = t.froms; conditions = t.conditions; items = s.items; names = s.names }) (record { froms = t.froms; conditions = t.conditions; items = t.items; names = s.names }) = ap (λ (x : List Operand). record { froms = t.froms; conditions = t.conditions; items = x; names = s.names }) i in
            let fourth : ◌≡◌ {A = Select} (record { froms = t.froms; conditions = t.conditions; items = t.items; names = s.names }) (record { froms = t.froms; conditions = t.conditions; items = t.items; names = t.names }) = ap (λ (x : List (List ℕ)). record { froms = t.froms; conditions = t.conditions; items = t.items; names = x }) n in
            first ∙ second ∙ third ∙ fourth

    -- an operand of the select has a meaning
    item_meant : (rels : List ℕ) (items : List NamedItem) (os : List Operand) (o : NamedOperand) → AllZip (λ (item : NamedItem) (p : Operand). IsMeant relations rels parts.froms item.operand p) items os → Contains (item_operands items) o →
        (p : Operand) × IsMeant relations rels parts.froms o p
    item_meant rels [] os o zip c = absurd (contains_none o c)
    item_meant rels (item ∷ items) [] o zip c = absurd zip
    item_meant rels (item ∷ items) (p ∷ os) o (h, zip) c = ⊎_elim (λ e. (p, subst (λ (q : NamedOperand). IsMeant relations rels parts.froms q p) e h)) (λ later. item_meant rels items os o zip later) (contains_cases item.operand (item_operands items) o c)

    condition_meant : (rels : List ℕ) (cs : List NamedCondition) (ds : List Condition) (o : NamedOperand) →
        AllZip (λ (c : NamedCondition) (d : Condition). IsMeant relations rels parts.froms c.left d.left × IsMeant relations rels parts.froms c.right d.right) cs ds → Contains (condition_operands cs) o →
        (p : Operand) × IsMeant relations rels parts.froms o p
    condition_meant rels [] ds o zip c = absurd (contains_none o c)
    condition_meant rels (c ∷ cs) [] o zip m = absurd zip
    condition_meant rels (c ∷ cs) (d ∷ ds) o (h, zip) m =
        ⊎_elim (λ e. (d.left, subst (λ (q : NamedOperand). IsMeant relations rels parts.froms q d.left) e h.0))
        (λ m'. ⊎_elim (λ e. (d.right, subst (λ (q : NamedOperand). IsMeant relations rels parts.froms q d.right) e h.1)) (λ later. condition_meant rels cs ds o zip later) (contains_cases c.right (condition_operands cs) o m'))
        (contains_cases c.left (c.right ∷ condition_operands cs) o m)

    meant : (s : Select) → IsMeaning relations parts s → (o : NamedOperand) → Contains (operands_of parts) o → (p : Operand) × IsMeant relations s.froms parts.froms o p
    meant s is o c = ⊎_elim (λ h. item_meant s.froms parts.items s.items o is.items h) (λ h. condition_meant s.froms parts.conditions s.conditions o is.conditions h)
        (Contains-append_cases (item_operands parts.items) (condition_operands parts.conditions) o c)

    pub no_name_fault : (s : Select) (f : NameFault) → IsMeaning relations parts s → IsNameFault relations parts f → ⊥
    no_name_fault s f is h = ⊎_elim
        (λ first. no_from_fault relations parts.froms s.froms is.froms f first.0)
        (λ (rels, froms, first).
        let same : rels ≡ s.froms = one_froms rels s.froms froms is.froms in
        let (o, c, of) = from_columns relations s.froms parts.froms parts refl f (subst (λ rs. IsColumnFault relations rs parts f) same first.0) in
        let (p, m) = meant s is o c in
        no_fault relations s.froms parts.froms is.froms.differ o p m f of)
        h

    -- names have one fault at most
    pub one_name_fault : (f g : NameFault) → IsNameFault relations parts f → IsNameFault relations parts g → f ≡ g
    one_name_fault f g h h' = ⊎_elim
        (λ first. ⊎_elim
        (λ first'. one_first (IsFromFault relations parts.froms) f g first first')
        (λ (rels, froms, _). absurd (no_from_fault relations parts.froms rels froms f first.0))
        h')
        (λ (rels, froms, first). ⊎_elim
        (λ first'. absurd (no_from_fault relations parts.froms rels froms g first'.0))
        (λ (rels', froms', first').
        let same : rels' ≡ rels = one_froms rels' rels froms' froms in
        one_first (IsColumnFault relations rels parts) f g first (subst (λ rs. IsFirst (IsColumnFault relations rs parts) g) same first'))
        h')
        h
