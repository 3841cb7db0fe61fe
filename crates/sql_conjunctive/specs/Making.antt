-- The form that is made of a select.
use Rattle.std.specs.Prelude.{List, [], Option, Some, None, map, length}
use Rattle.meaning.specs.declared.types.Atom.{Atom}
use Rattle.meaning.specs.declared.types.Query.{Query}
use Rattle.meaning.specs.declared.types.Relation.{Relation}
use Rattle.meaning.specs.declared.types.Operand.{Operand}
use Rattle.meaning.specs.declared.types.Select.{Select}
use Rattle.meaning.specs.Conjunctive.{term_of}
use Rattle.sql_conjunctive.specs.declared.form.Conjunctive.{Conjunctive}
use Rattle.sql_conjunctive.specs.declared.form.Conjunctive.TheVariants as form
use Rattle.sql_conjunctive.specs.Merging.{opening_from, with_terms, met_all}
use Rattle.sql_conjunctive.specs.Numbering.{order_through, number_in}

-- The atoms with their variables numbered by first occurrence.
abbrev pub numbered_atoms : List Atom → List Atom
numbered_atoms merged = map (with_terms (number_in (order_through [] merged))) merged

-- The query of merged atoms and items.
abbrev pub made_query : List Atom → List Operand → Query
made_query merged items = record { atoms = numbered_atoms merged; head = map (term_of (numbered_atoms merged)) items; variables = length (order_through [] merged) }

-- The form where there are merged atoms, or none.
abbrev pub form_from : Option (List Atom) → List Operand → Conjunctive
form_from None items = form.Never
form_from (Some merged) items = form.Query (made_query merged items)

-- The form of a select over relations.
abbrev pub made_form : List Relation → Select → Conjunctive
made_form relations select = form_from (met_all (opening_from relations 0 select.froms) select.conditions) select.items
