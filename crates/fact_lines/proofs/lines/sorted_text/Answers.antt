use Rattle.std.proofs.Common.{◌≡◌, ◌∙◌, List, map, sym, subst}
use Rattle.std.specs.Prelude.{flat_map}
use Rattle.std.specs.Str.{IsUtf8}
use Rattle.std.proofs.lemmas.Str.{IsUtf8-nil}
use Rattle.meaning.specs.declared.types.Fact.{Fact}
use Rattle.fact_lines.specs.Lent.{lent_fact}
use Rattle.fact_lines.specs.Lines.{fact_text, IsListing}
use Rattle.fact_lines.proofs.lines.sorted_text.Goals as goal

pub returns-clause-text : goal.returns-clause-text
returns-clause-text c =
    let listing = c.in_ok-listing.listing.items in
    let written : c.push_facts.new.out.items ≡ flat_map (fact_text c.args.schema.now.relations) (map lent_fact listing) =
    rw (c.new-out.ensures.items, c.as_slice-2.ensures.value) at c.in_ok-push_facts.ensures.text in
    record {
      listing = map lent_fact listing;
      is_listing = subst (λ (facts : List Fact). IsListing facts (map lent_fact listing)) c.as_slice.ensures c.in_ok-listing.ensures;
      text_is = c.from_vec.ensures ∙ written;
    }

pub returns-clause-utf8 : goal.returns-clause-utf8
returns-clause-utf8 c = subst IsUtf8 (sym c.from_vec.ensures) (c.in_ok-push_facts.ensures.utf8 (subst IsUtf8 (sym c.new-out.ensures.items) IsUtf8-nil))
