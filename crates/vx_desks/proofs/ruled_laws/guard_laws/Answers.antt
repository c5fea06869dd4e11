use Rattle.vx_desks.proofs.ruled_laws.guard_laws.Goals as goal

pub returns : goal.returns
returns g c = record {
  claims = c.claims_law.ensures.claims;
  owned = c.owned_law.ensures;
  links = c.links_law.ensures.links;
  few = c.links_law.ensures.few;
  called = c.called_law.ensures;
  read_made = c.replies_read.ensures.made;
  read_done = c.replies_read.ensures.done;
  alike = c.texts_name.ensures;
}
