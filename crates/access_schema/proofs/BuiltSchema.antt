-- Parts without faults, whose names are not empty, make a schema.
use Rattle.std.proofs.Common.{List}
use Rattle.std.proofs.lemmas.Grind.{merely}
use Rattle.access_schema.specs.declared.part.Part.{Part}
use Rattle.access_schema.specs.declared.limits.TheConstants.{MOST_COLUMNS}
use Rattle.access_schema.specs.Content.{relations_of, methods_of, rules_of, constants_of, sources_of}
use Rattle.access_schema.specs.Faults.{AreFaultless, AreNamed, HaveSorts}
use Rattle.access_schema.specs.Fits.{AreSmall}
use Rattle.access_schema.specs.Invariant.{IsSchema}
use Rattle.access_schema.proofs.Built.{relations_are, methods_are, sources_are}
use Rattle.access_schema.proofs.BuiltSorts.{rules_sorted}
use Rattle.access_schema.proofs.BuiltRules.{rules_are, constants_differ, constants_few, found_columns}

pub small : (parts : List Part) → AreFaultless parts → AreNamed parts → HaveSorts parts → AreSmall (relations_of parts)
small parts faultless named sorted = record {
  few = (relations_are parts faultless named sorted).few;
  columns = λ name. found_columns (relations_of parts) name MOST_COLUMNS (λ relation there. ((relations_are parts faultless named sorted).columns relation there).few);
}

pub is_schema : (parts : List Part) → AreFaultless parts → AreNamed parts → HaveSorts parts → IsSchema (relations_of parts) (methods_of (relations_of parts) parts) (rules_of (relations_of parts) parts) (constants_of parts) (sources_of (relations_of parts) parts)
is_schema parts faultless named sorted = record {
  relations_are = relations_are parts faultless named sorted;
  methods_are = methods_are parts faultless named;
  rules_are = rules_are parts faultless (small parts faultless named sorted).columns;
  constants_few = constants_few parts faultless;
  constants_differ = constants_differ parts;
  sources_are = sources_are parts faultless named;
  sorted = λ rule there. merely (rules_sorted parts faultless (relations_are parts faultless named sorted) (methods_of (relations_of parts) parts) (rules_of (relations_of parts) parts) (constants_of parts) rule there);
}
