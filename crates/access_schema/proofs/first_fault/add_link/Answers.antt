-- The numbers of the new link are below, since its relations are declared.
use Rattle.std.proofs.Common.{sym, ◌∙◌}
use Rattle.access_schema.proofs.LeastFault.{link_below, below_push}
use Rattle.access_schema.proofs.first_fault.add_link.Goals as goal

pub leads_round-requires-clause-last : goal.leads_round-requires-clause-last
leads_round-requires-clause-last c = link_below c.args.relations.now c.args.part.now c.in-Some.link c.requires.known (sym c.in_ok-link.ensures ∙ c.in-Some.is)

pub returns-clause-below : goal.returns-clause-below
returns-clause-below c = rw c.in_ok-push.ensures.items (below_push _ c.args.links.now.items c.in-Some.link c.requires.below
    (link_below c.args.relations.now c.args.part.now c.in-Some.link c.requires.known (sym c.in_ok-link.ensures ∙ c.in-Some.is)))
