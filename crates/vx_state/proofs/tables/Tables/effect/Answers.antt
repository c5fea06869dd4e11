use Rattle.std.proofs.Common.{◌≡◌, Some, refl, sym, ap, ◌∙◌}
use Rattle.vx_calls.specs.Call as call
use Rattle.vx_calls.specs.Target.{target}
use Rattle.vx_calls.specs.Reply.{reply_shown}
use Rattle.vx_rules.specs.Checks.{check_create, named_link}
use Rattle.vx_rules.specs.Lines.{holder_against}
use Rattle.vx_rules.specs.Effects.{effect}
use Rattle.vx_state.proofs.Granting.{served_is, to_pending, on_own, created_free, none_else, enable_gives, unlock_gives, destroy_gives}
use Rattle.vx_state.proofs.tables.Tables.effect.Goals as goal

pub create-requires-clause-checks : goal.create-requires-clause-checks
create-requires-clause-checks c =
    let s = served_is c.args.self.now c.args.own c.args.conn c.held-row.result.now c.asked_of-asked.result c.held-row.ensures.pending c.asked_of-asked.ensures c.requires.table c.requires.passes _ c.in-CreateLink.is in
    ap (check_create c.args.self.now) (c.target_of-named.ensures.value ∙ ap (λ x. target x c.args.own) c.as_slice.ensures.value) ∙ s.lets.checks

pub create-requires-clause-free : goal.create-requires-clause-free
create-requires-clause-free c = λ l u e.
    let s = served_is c.args.self.now c.args.own c.args.conn c.held-row.result.now c.asked_of-asked.result c.held-row.ensures.pending c.asked_of-asked.ensures c.requires.table c.requires.passes _ c.in-CreateLink.is in
    created_free c.args.self.now c.args.own c.in-CreateLink.client c.in-CreateLink.lock c.in-CreateLink.lock_timeout c.held-row.result.now.text.bytes.items s.lets.locks l u
    (sym (c.target_of-named.ensures.value ∙ ap (λ x. target x c.args.own) c.as_slice.ensures.value) ∙ e)

pub enable-requires-clause-owned : goal.enable-requires-clause-owned
enable-requires-clause-owned c =
    let s = served_is c.args.self.now c.args.own c.args.conn c.held-row.result.now c.asked_of-asked.result c.held-row.ensures.pending c.asked_of-asked.ensures c.requires.table c.requires.passes _ c.in-EnableSrq.is in
    (on_own c.args.self.now c.args.own c.args.conn c.in-EnableSrq.lid _ s.lets.checks).is.owned

pub enable-requires-clause-added : goal.enable-requires-clause-added
enable-requires-clause-added c = c.held-row.ensures.port

pub take_lock-requires : goal.take_lock-requires
take_lock-requires c =
    let t = c.args.self.now in
    let s = served_is t c.args.own c.args.conn c.held-row.result.now c.asked_of-asked.result c.held-row.ensures.pending c.asked_of-asked.ensures c.requires.table c.requires.passes _ c.in-Lock.is in
    let o = on_own t c.args.own c.args.conn c.in-Lock.lid _ s.lets.checks in
    record { on = (o.link, o.found, ap (λ a. holder_against t c.args.own a (call.Lock c.in-Lock.lid c.in-Lock.flags c.in-Lock.lock_timeout)) (sym o.named) ∙ s.lets.locks) }

pub destroy-requires : goal.destroy-requires
destroy-requires c =
    let s = served_is c.args.self.now c.args.own c.args.conn c.held-row.result.now c.asked_of-asked.result c.held-row.ensures.pending c.asked_of-asked.ensures c.requires.table c.requires.passes _ c.in-DestroyLink.is in
    record { owned = (on_own c.args.self.now c.args.own c.args.conn c.in-DestroyLink.lid _ s.lets.checks).is.owned }

pub unreachable-requires : goal.unreachable-requires
unreachable-requires c =
    let row = c.held-row.result.now in
    let s = served_is c.args.self.now c.args.own c.args.conn row c.asked_of-asked.result c.held-row.ensures.pending c.asked_of-asked.ensures c.requires.table c.requires.passes c.asked_of-asked.result.call refl in
    none_else c.asked_of-asked.result.call row.text.bytes.items row.handle.bytes.items c.in_default.not-CreateLink c.in_default.not-EnableSrq c.in_default.not-Lock
    c.in_default.not-Unlock c.in_default.not-DestroyLink c.in_default.not-DestroyIntr s.simple

pub returns-in-EnableSrq : goal.returns-in-EnableSrq
returns-in-EnableSrq c =
    let t = c.args.self.now in
    let row = c.held-row.result.now in
    let s = served_is t c.args.own c.args.conn row c.asked_of-asked.result c.held-row.ensures.pending c.asked_of-asked.ensures c.requires.table c.requires.passes _ c.in-EnableSrq.is in
    let o = on_own t c.args.own c.args.conn c.in-EnableSrq.lid _ s.lets.checks in
    to_pending t c.args.conn row c.asked_of-asked.result c.held-row.ensures.pending c.asked_of-asked.ensures
    (λ k. effect t c.args.own c.args.conn (named_link t c.args.conn k) k ≡ Some (reply_shown c.enable.result, c.enable.new.self)) _ c.in-EnableSrq.is
    (enable_gives t c.args.own c.args.conn c.in-EnableSrq.lid c.in-EnableSrq.enable row.handle.bytes.items c.copied-handle.result.bytes.items o.link o.named o.is.number c.copied-handle.ensures
    (reply_shown c.enable.result) c.enable.new.self c.enable.ensures.reply c.enable.ensures.tables)

pub returns-in-Unlock : goal.returns-in-Unlock
returns-in-Unlock c =
    let t = c.args.self.now in
    let row = c.held-row.result.now in
    let s = served_is t c.args.own c.args.conn row c.asked_of-asked.result c.held-row.ensures.pending c.asked_of-asked.ensures c.requires.table c.requires.passes _ c.in-Unlock.is in
    let o = on_own t c.args.own c.args.conn c.in-Unlock.lid _ s.lets.checks in
    to_pending t c.args.conn row c.asked_of-asked.result c.held-row.ensures.pending c.asked_of-asked.ensures
    (λ k. effect t c.args.own c.args.conn (named_link t c.args.conn k) k ≡ Some (reply_shown c.free_lock.result, c.free_lock.new.self)) _ c.in-Unlock.is
    (unlock_gives t c.args.own c.args.conn c.in-Unlock.lid o.link o.named o.is.number (reply_shown c.free_lock.result) c.free_lock.new.self c.free_lock.ensures.reply c.free_lock.ensures.tables)

pub returns-in-DestroyLink : goal.returns-in-DestroyLink
returns-in-DestroyLink c =
    let t = c.args.self.now in
    let row = c.held-row.result.now in
    let s = served_is t c.args.own c.args.conn row c.asked_of-asked.result c.held-row.ensures.pending c.asked_of-asked.ensures c.requires.table c.requires.passes _ c.in-DestroyLink.is in
    let o = on_own t c.args.own c.args.conn c.in-DestroyLink.lid _ s.lets.checks in
    to_pending t c.args.conn row c.asked_of-asked.result c.held-row.ensures.pending c.asked_of-asked.ensures
    (λ k. effect t c.args.own c.args.conn (named_link t c.args.conn k) k ≡ Some (reply_shown c.destroy.result, c.destroy.new.self)) _ c.in-DestroyLink.is
    (destroy_gives t c.args.own c.args.conn c.in-DestroyLink.lid o.link o.named o.is.number (reply_shown c.destroy.result) c.destroy.new.self c.destroy.ensures.reply c.destroy.ensures.tables)
