use Rattle.std.proofs.Common.{◌≡◌, Some, None, ap, ◌∙◌}
use Rattle.std.specs.Prelude.{is_none, option_and_then}
use Rattle.std.specs.List.{position_from}
use Rattle.std.specs.Str.{bytes_eq}
use Rattle.vx_table.specs.Table.{Rule, without_line_feed, finished}
use Rattle.vx_table.specs.Rows.{delayed_of}
use Rattle.vx_table.proofs.Places.{finished-some, finished-none}
use Rattle.vx_table.proofs.TableInst.finish.Goals as goal

pub returns-in-Some-clause-finished : goal.returns-in-Some-clause-finished
returns-in-Some-clause-finished c =
    let text = c.without_line_feed.result.now in
    let is : text ≡ without_line_feed c.self.inside.body.inbox = c.without_line_feed.ensures ∙ ap without_line_feed c.message.ensures in
    let first : Some c.in-Some.place ≡ position_from (λ (r : Rule). bytes_eq r.asked text) 0 c.self.inside.rows.items =
    c.in-Some.ensures.first ∙ ap (position_from (λ (r : Rule). bytes_eq r.asked text) 0) c.deref.ensures.value in
    c.begin.ensures.begun
    ∙ finished-some c.self.inside.body c.forget.new.self c.self.inside.rows.items (is_none c.self.inside.waiting)
    (option_and_then (delayed_of c.self.inside.rows.items) c.self.inside.waiting) c.self.inside.told text c.in-Some.place c.forget.ensures.forgotten is first
    ∙ ap finished c.self.view_is

pub returns-in-None-clause-finished : goal.returns-in-None-clause-finished
returns-in-None-clause-finished c =
    let text = c.without_line_feed.result.now in
    let is : text ≡ without_line_feed c.self.inside.body.inbox = c.without_line_feed.ensures ∙ ap without_line_feed c.message.ensures in
    let first : None ≡ position_from (λ (r : Rule). bytes_eq r.asked text) 0 c.self.inside.rows.items =
    c.in-None.ensures.first ∙ ap (position_from (λ (r : Rule). bytes_eq r.asked text) 0) c.deref.ensures.value in
    finished-none c.self.inside.body c.forget.new.self c.self.inside.rows.items (is_none c.self.inside.waiting)
    (option_and_then (delayed_of c.self.inside.rows.items) c.self.inside.waiting) c.self.inside.told text c.forget.ensures.forgotten is first
    ∙ ap finished c.self.view_is
