use Rattle.std.proofs.Common.{◌≡◌, ℕ, List, Ok, Err, refl, ap, subst, rules}
use Rattle.std.specs.Prelude.{string_bytes}
use Rattle.vx_io_traits.specs.declared.dials.DialOut.TheVariants.{Up}
use Rattle.vx_upstream.specs.UpstreamState.{terms_of}
use Rattle.vx_upstream.specs.Sending.{words_of, Reaches}
use Rattle.vx_upstream.specs.Opening.{Links}
use Rattle.vx_upstream.proofs.Resting.{reached-first, links-first}
use Rattle.vx_upstream.proofs.upstream.UpstreamBus.link_to.Goals as goal

pub returns-in-Err-clause-unlinked : goal.returns-in-Err-clause-unlinked
returns-in-Err-clause-unlinked g c =
    let same : c.in-Ok-to_vec.name.items ≡ c.args.name.now = c.in-Ok-to_vec.ensures.items_if_clones_equal (λ x y e. e) in
    let host : c.as_str.result.now ≡ string_bytes c.args.host = search rules in
    let name : c.as_slice.result.now ≡ c.args.name.now = search rules in (
      c.reach_box.new.client.link,
      c.create_link.new.self,
      reached-first (words_of g.L.Link g.L.Reach.refused g.L.Reach.tries) c.args.link c.in-Ok-new.client c.reach_box.new.client c.in-Ok-new.ensures.made c.reach_box.ensures.over (string_bytes c.args.host) c.args.port Up
          (subst (λ (h : List ℕ). Reaches (words_of g.L.Link g.L.Reach.refused g.L.Reach.tries) h c.args.port Up c.in-Ok-new.client.link c.reach_box.new.client.link) host c.in-Up.ensures.reached),
      subst (λ (n : List ℕ). Links (words_of g.L.Link g.L.Reach.refused g.L.Reach.tries) c.reach_box.new.client.link n c.create_link.new.self (Err c.in-Err.error)) name
          (links-first (words_of g.L.Link g.L.Reach.refused g.L.Reach.tries) c.args.link c.in-Ok-new.client c.reach_box.new.client c.in-Ok-new.ensures.made c.reach_box.ensures.over c.as_slice.result.now c.create_link.new.self (Err c.in-Err.error) c.in-Err.ensures.called),
    )

pub returns-in-Ok-create_link-clause-linked : goal.returns-in-Ok-create_link-clause-linked
returns-in-Ok-create_link-clause-linked g c =
    let same : c.in-Ok-to_vec.name.items ≡ c.args.name.now = c.in-Ok-to_vec.ensures.items_if_clones_equal (λ x y e. e) in
    let host : c.as_str.result.now ≡ string_bytes c.args.host = search rules in
    let name : c.as_slice.result.now ≡ c.args.name.now = search rules in
    record {
      at_box = c.reach_box.new.client.link;
      reached = reached-first (words_of g.L.Link g.L.Reach.refused g.L.Reach.tries) c.args.link c.in-Ok-new.client c.reach_box.new.client c.in-Ok-new.ensures.made c.reach_box.ensures.over (string_bytes c.args.host) c.args.port Up
          (subst (λ (h : List ℕ). Reaches (words_of g.L.Link g.L.Reach.refused g.L.Reach.tries) h c.args.port Up c.in-Ok-new.client.link c.reach_box.new.client.link) host c.in-Up.ensures.reached);
      called = subst (λ (n : List ℕ). Links (words_of g.L.Link g.L.Reach.refused g.L.Reach.tries) c.reach_box.new.client.link n c.create_link.new.self (Ok c.in-Ok-create_link.made)) name
          (links-first (words_of g.L.Link g.L.Reach.refused g.L.Reach.tries) c.args.link c.in-Ok-new.client c.reach_box.new.client c.in-Ok-new.ensures.made c.reach_box.ensures.over c.as_slice.result.now c.create_link.new.self (Ok c.in-Ok-create_link.made) c.in-Ok-create_link.ensures.called);
      same = ap (λ (n : List ℕ). terms_of (string_bytes c.args.host) c.args.port n c.args.patience) same;
      kept = search rules;
      due = refl;
    }
