-- What remains of a rule behind its first atom, where the variables below a width have values.
use Rattle.std.specs.Prelude.{ℕ, ◌-◌, List, map, drop, if◌then◌else◌, nat_lt}
use Rattle.meaning.specs.declared.types.Term.{Term}
use Rattle.meaning.specs.declared.types.Term.TheVariants.{Var, Const}
use Rattle.meaning.specs.declared.types.Atom.{Atom}
use Rattle.meaning.specs.declared.types.Rule.{Rule}
use Rattle.meaning.specs.Values.{Value}

-- A variable below the width is its value, and a later one has a number less by the width.
abbrev pub remaining_term : ℕ → (ℕ → Value) → Term → Term
remaining_term width a (Var x) = if nat_lt x width then Const (a x) else Var (x - width)
remaining_term width a (Const c) = Const c

abbrev pub remaining_atom : ℕ → (ℕ → Value) → Atom → Atom
remaining_atom width a atom = record { rel = atom.rel; terms = map (remaining_term width a) atom.terms }

abbrev pub remaining_atoms : ℕ → (ℕ → Value) → List Atom → List Atom
remaining_atoms width a atoms = map (remaining_atom width a) atoms

-- The rule without its first atom, under these values.
abbrev pub remaining_rule : ℕ → (ℕ → Value) → Rule → Rule
remaining_rule width a rule = record {
  line = rule.line;
  body = remaining_atoms width a (drop 1 rule.body);
  head = remaining_atoms width a rule.head;
}
