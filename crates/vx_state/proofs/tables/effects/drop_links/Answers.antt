use Rattle.std.proofs.Common.{◌<◌, length, ℕ, sym, subst, ap, ◌∙◌}
use Rattle.std.specs.Option.{option_map}
use Rattle.vx_links.specs.Shown.{link_shown}
use Rattle.vx_rules.specs.Table.{without_link}
use Rattle.vx_state.proofs.Dropping.{Going, going_more, going_shorter, going_done}
use Rattle.vx_state.proofs.tables.effects.drop_links.Goals as goal

pub loop-link-smaller : goal.loop-link-smaller
loop-link-smaller c =
    let P : ℕ → Type 0 = λ n. n < length c.loop-link.links.links in
    subst P (sym (ap (λ t. length t.links) c.remove.ensures.links))
    (going_shorter c.args.conn c.loop-link.links c.in-Some.link c.loop-link.invariant.numbered (sym c.in-Some.ensures.link))

pub loop-link-preserved : goal.loop-link-preserved
loop-link-preserved c =
    subst (λ t. Going c.args.conn c.args.links.now t c.args.locks.now c.free.new.self) (sym c.remove.ensures.links)
    (subst (λ ks. Going c.args.conn c.args.links.now (without_link c.loop-link.links c.in-Some.link.lid) c.args.locks.now ks) (sym c.free.ensures.locks)
    (going_more c.args.conn c.args.links.now c.loop-link.links c.args.locks.now c.loop-link.locks c.in-Some.link c.loop-link.invariant (sym c.in-Some.ensures.link)))

pub returns-clause-links : goal.returns-clause-links
returns-clause-links c =
    (going_done c.args.conn c.args.links.now c.loop-link.links c.args.locks.now c.loop-link.locks c.loop-link.invariant
    (sym c.of_connection.ensures.link ∙ ap (option_map link_shown) c.in_default.is)).links

pub returns-clause-locks : goal.returns-clause-locks
returns-clause-locks c =
    (going_done c.args.conn c.args.links.now c.loop-link.links c.args.locks.now c.loop-link.locks c.loop-link.invariant
    (sym c.of_connection.ensures.link ∙ ap (option_map link_shown) c.in_default.is)).locks
