use Rattle.std.proofs.Common.{ap, ◌∙◌, subst}
use Rattle.vx_upstream.specs.UpstreamState.{UpstreamState}
use Rattle.vx_upstream.specs.Sending.{words_of}
use Rattle.vx_upstream.specs.Stepping.{ComesBack}
use Rattle.vx_upstream.proofs.bus.UpstreamBusBus.moment.Goals as goal

pub returns-clause-through : goal.returns-clause-through
returns-clause-through g c = (
  c.look.ensures.means ∙ ap (λ (s : UpstreamState g.row.L.Denot). s.kept.means) c.come_back.ensures.rest ∙ ap (λ (s : UpstreamState g.row.L.Denot). s.kept.means) c.hear.ensures,
  ap (λ (s : UpstreamState g.row.L.Denot). s.terms) c.look.ensures.rest ∙ ap (λ (s : UpstreamState g.row.L.Denot). s.terms) c.come_back.ensures.rest
      ∙ ap (λ (s : UpstreamState g.row.L.Denot). s.terms) c.hear.ensures,
  (
    ap (λ (s : UpstreamState g.row.L.Denot). s.due) c.look.ensures.rest ∙ ap (λ (s : UpstreamState g.row.L.Denot). s.due) c.come_back.ensures.rest
        ∙ ap (λ (s : UpstreamState g.row.L.Denot). s.due) c.hear.ensures,
    (
      c.come_back.new.self,
      subst (λ (s : UpstreamState g.row.L.Denot). ComesBack (words_of g.L.Link g.L.Reach.refused g.L.Reach.tries) s c.come_back.new.self) c.hear.ensures c.come_back.ensures.back,
      c.look.ensures.looked,
    ),
  ),
)

pub returns-clause-stepped : goal.returns-clause-stepped
returns-clause-stepped g c =
    c.look.ensures.means ∙ ap (λ (s : UpstreamState g.row.L.Denot). s.kept.means) c.come_back.ensures.rest ∙ ap (λ (s : UpstreamState g.row.L.Denot). s.kept.means) c.hear.ensures
