use Rattle.std.proofs.Common.{◌≤◌, ◌-◌, ◌++◌, arith, ap, sym, refl, ◌∙◌, length, take, drop}
use Rattle.std.proofs.lemmas.Grind.{common_steps}
use Rattle.vx_memory.specs.LinkState.{LinkState, after_receive}
use Rattle.vx_io_traits.specs.declared.ReadOut.TheVariants.{Got}
use Rattle.vx_memory.proofs.Pieces.{copied, given_after, left_after, moved}
use Rattle.vx_memory.proofs.links.MemLinkLink.receive.Goals as goal

pub returns-clause-after : goal.returns-clause-after
returns-clause-after c =
    let s = c.self.inside in
    let was : LinkState = record {
      given = take s.at s.bytes.items;
      left = drop s.at s.bytes.items;
      piece = s.piece;
      taken = s.room.items;
      fails = s.fails.items;
      calls = s.calls;
      receive_faults = s.receive_faults;
      send_faults = s.send_faults;
    } in
    moved was s.bytes.items s.at c.give-count.result c.saturating_add-self-inside.result refl refl c.saturating_add-self-inside.ensures
    ∙ ap (λ (v : LinkState). after_receive v (Got c.give-count.result)) c.self.view_is

-- the bytes that were given and those that are left are the bytes that were left, and the first come behind those given before
pub returns-clause-got : goal.returns-clause-got
returns-clause-got c =
    let s = c.self.inside in
    let n = c.give-count.result in
    let taken_is = ap (λ (v : LinkState). v.taken) (sym c.self.view_is) in
    let given_is = ap (λ (v : LinkState). v.given) (sym c.self.view_is) in
    let left_is = ap (λ (v : LinkState). v.left) (sym c.self.view_is) in
    let fits : n ≤ length (take (length c.deref-2.result.now - s.at) (drop s.at c.deref-2.result.now)) = omega (arith, c.give-count.ensures.count) in
    let front = copied c.args.self.now.left c.deref-2.result.now s.bytes.items c.args.into.now c.give-count.new.into s.at n
    left_is c.deref-2.ensures.value (omega arith) fits c.give-count.ensures.slice in (
      grind (arith, common_steps),
      grind (arith, common_steps),
      left_after c.args.self.now.left c.deref-2.result.now s.bytes.items c.args.into.now c.give-count.new.into s.at n
          left_is c.deref-2.ensures.value (omega arith) fits c.give-count.ensures.slice,
      λ taken given h. (
        h.0 ∙ taken_is,
        ap (λ l. l ++ take n c.give-count.new.into) h.1
            ∙ given_after c.args.self.now.given c.args.self.now.left s.bytes.items c.give-count.new.into s.at n given_is left_is front,
      ),
    )
