use Rattle.std.proofs.Common.{◌≡◌, ◌==◌, not, filter, length, nat_lt, unwrap_or, is_ok, vec_len, ◌+◌, if◌then◌else◌, arith, rules, ap, ◌∙◌}
use Rattle.std.specs.List.{insert, position}
use Rattle.std.proofs.lemmas.Fn.{filter_same}
use Rattle.vx_srq.proofs.Places.{put_is}
use Rattle.vx_srq.proofs.enables.put.Goals as goal

pub unwrap-requires : goal.unwrap-requires
unwrap-requires c =
    let left : c.retain.new.self.items ≡ filter (λ r. not (r.lid == c.args.row.lid)) c.args.rows.now.items =
    filter_same _ (λ r. not (r.lid == c.args.row.lid)) _ (λ x b f' k. search rules) _ _ c.retain.ensures.filtered in
    c.insert.ensures.succeeds (omega (arith, c.requires.room, ap length left, c.retain.ensures.capacity, c.retain.new.self.ok.0))

pub returns-clause-rows : goal.returns-clause-rows
returns-clause-rows c =
    let left : c.retain.new.self.items ≡ filter (λ r. not (r.lid == c.args.row.lid)) c.args.rows.now.items =
    filter_same _ (λ r. not (r.lid == c.args.row.lid)) _ (λ x b f' k. search rules) _ _ c.retain.ensures.filtered in
    let items = c.retain.new.self.items in
    let place : c.unwrap_or-at.result ≡ unwrap_or (position (λ r. nat_lt c.args.row.lid r.lid) items) (length items) =
    c.unwrap_or-at.ensures
    ∙ ap (λ o. unwrap_or o c.len.result) (c.first_above.ensures ∙ ap (position (λ r. nat_lt c.args.row.lid r.lid)) c.deref.ensures.value)
    ∙ ap (unwrap_or (position (λ r. nat_lt c.args.row.lid r.lid) items)) (c.len.ensures ∙ c.retain.new.self.ok.0) in
    put_is c.args.rows.now.items items c.insert.new.self.items c.args.row c.unwrap_or-at.result c.requires.rising left place
    (c.insert.ensures.items ∙ ap (λ r. if is_ok r then insert items c.unwrap_or-at.result c.args.row else items) c.unwrap.ensures)

pub returns-clause-room : goal.returns-clause-room
returns-clause-room c =
    let left : c.retain.new.self.items ≡ filter (λ r. not (r.lid == c.args.row.lid)) c.args.rows.now.items =
    filter_same _ (λ r. not (r.lid == c.args.row.lid)) _ (λ x b f' k. search rules) _ _ c.retain.ensures.filtered in
    (c.insert.ensures.in_place (omega (arith, c.requires.room, ap length left, c.retain.ensures.capacity, c.retain.new.self.ok.0))).1.0 ∙ c.retain.ensures.capacity

pub returns-clause-len : goal.returns-clause-len
returns-clause-len c =
    let left : c.retain.new.self.items ≡ filter (λ r. not (r.lid == c.args.row.lid)) c.args.rows.now.items =
    filter_same _ (λ r. not (r.lid == c.args.row.lid)) _ (λ x b f' k. search rules) _ _ c.retain.ensures.filtered in
    let longer = c.insert.ensures.len ∙ ap (λ r. if is_ok r then vec_len c.retain.new.self + 1 else vec_len c.retain.new.self) c.unwrap.ensures in
    omega (arith, longer, ap length left, c.retain.new.self.ok.0, c.insert.new.self.ok.0)
