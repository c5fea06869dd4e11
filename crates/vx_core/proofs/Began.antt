-- Whether a poll began its call's turn, told by how it ended.
use Rattle.std.proofs.Common.{◌≡◌, ℕ, Bool, true, false, cond, List, [], ◌∷◌, ◌++◌, Option, Some, None, refl, sym, ap, ◌∙◌}
use Rattle.std.specs.Prelude.{not, is_none, is_some, ◌&&◌}
use Rattle.std.proofs.lemmas.Bool.{and_parts, true≢false}
use Rattle.std.proofs.lemmas.Option.{none-some, same_Some}
use Rattle.vx_488.specs.declared.transfers.Transfer.{Transfer}
use Rattle.vx_rules.specs.Lists.{along}
use Rattle.vx_rules.specs.State.{Pending, pending_at}
use Rattle.vx_flow.specs.Event.{Begin, Move}
use Rattle.vx_flow.specs.InterleavedState.{Turn, InterleavedState, turn_of}
use Rattle.vx_flow.specs.InterleavedStep.{interleaved_step, may_begin, is_passed}
use Rattle.vx_flow.specs.Does.{Moves}
use Rattle.vx_flow.proofs.Laws.{interleaved-does}
use Rattle.vx_flow.specs.Poll.{Ending, Polls, RanTo, begins, moved_events, lines_at, runs, is_run, ran_of}
use Rattle.vx_flow.specs.declared.progress.Ran.{Ran}
use Rattle.vx_core.specs.declared.running.Running.{Running}
use Rattle.vx_flow.specs.declared.progress.Ran.TheVariants as ran
use Rattle.vx_core.specs.declared.ended.Ended.{Ended}
use Rattle.vx_core.specs.declared.ended.Ended.TheVariants as ended
use Rattle.vx_core.specs.Shown.{turn_shown}
use Rattle.vx_core.specs.Ending.{ended_shown, has_run}
use Rattle.vx_core.proofs.Ends.{begun-so, begun-runs}

-- whether a poll went on with its call's turn, as the kernel has it
run-shown : (e : Ended) (room : List ℕ) → has_run e ≡ is_run (ran_of (ended_shown e room))
run-shown (ended.Answered r level given) room = refl
run-shown (ended.Waited w) room = refl
run-shown (ended.Dialed host port) room = refl

free-shown : (o : Option Running) (made : List Transfer) → not (is_some o) ≡ is_none (turn_shown o made)
free-shown None made = refl
free-shown (Some r) made = refl

no-and : (b : Bool) → (b && false) ≡ false
no-and true = refl
no-and false = refl

-- a poll that begins its call's turn goes on with it
begun-run : (f b : InterleavedState) (conn now : ℕ) (p : Pending) (moves : List Transfer) (ran : Ran) → pending_at f.state.tables conn ≡ Some p
    → along interleaved_step (interleaved_step f (Begin conn now)) (moved_events conn moves) ≡ Some b → RanTo b conn now p moves ran → is_run ran ≡ true
begun-run f b conn now p moves ran.Still at x h =
    let so = begun-so f b conn now (sym (ap (λ ts. along interleaved_step (interleaved_step f (Begin conn now)) (moved_events conn ts)) h.1) ∙ x) in
    absurd (true≢false (sym (begun-runs f conn now p at so.1) ∙ ap (λ g. runs g conn now p) so.2 ∙ h.0))
begun-run f b conn now p moves _ at x h = refl

-- where no turn is under way, one that doesn't begin it moves nothing
unmoved : (f b : InterleavedState) (conn : ℕ) (moves : List Transfer) → f.turn ≡ None → along interleaved_step (Some f) (moved_events conn moves) ≡ Some b → b.turn ≡ None
unmoved f b conn [] none x = ap (λ (g : InterleavedState). g.turn) (sym (same_Some f b x)) ∙ none
unmoved f b conn (t ∷ ts) none x =
    let made : Moves f conn (t ∷ ts) b = (interleaved-does f b (Move conn (t ∷ ts)) x).step in absurd (none-some made.turn (sym none ∙ made.under_way))

-- and doesn't go on
unbegun-run : (f b : InterleavedState) (conn now : ℕ) (p : Pending) (moves : List Transfer) (ran : Ran) → f.turn ≡ None
    → along interleaved_step (Some f) (moved_events conn moves) ≡ Some b → RanTo b conn now p moves ran → is_run ran ≡ false
unbegun-run f b conn now p moves far none x = by far where
  off : runs b conn now p ≡ false
  off = ap (λ t. is_passed (lines_at b conn now p) && is_some (turn_of t conn)) (unmoved f b conn moves none x) ∙ no-and (is_passed (lines_at b conn now p))

  by : (far : Ran) → RanTo b conn now p moves far → is_run far ≡ false
  by ran.Still h = refl
  by _ h = absurd (true≢false (sym h.0 ∙ off))

unbegun : (f b : InterleavedState) (conn now : ℕ) (p : Pending) (moves : List Transfer) (ran : Ran) (turn : Option Turn) → f.turn ≡ turn
    → along interleaved_step (Some f) (moved_events conn moves) ≡ Some b → RanTo b conn now p moves ran → false ≡ (is_none turn && is_run ran)
unbegun f b conn now p moves ran None is x h = sym (unbegun-run f b conn now p moves ran is x h)
unbegun f b conn now p moves ran (Some u) is x h = refl

-- A poll began its call's turn exactly where none was under way and it went on with one.
pub polls-began : (f g : InterleavedState) (conn now : ℕ) (moves : List Transfer) (ending : Ending) → Polls f conn now moves ending g
    → begins f conn now ≡ (is_none f.turn && is_run (ran_of ending))
polls-began f g conn now moves ending polls = by (begins f conn now) refl polls.runs_to where
  by : (b : Bool) → begins f conn now ≡ b → along interleaved_step (Some f) (cond b (Begin conn now ∷ []) [] ++ moved_events conn moves) ≡ Some polls.behind
      → b ≡ (is_none f.turn && is_run (ran_of ending))
  by true is x =
      sym (ap (λ b. b && is_run (ran_of ending)) (and_parts (is_none f.turn) (may_begin f.state conn now (pending_at f.state.tables conn)) is).0
      ∙ begun-run f polls.behind conn now polls.asked moves (ran_of ending) polls.call_at x polls.ran)
  by false is x = unbegun f polls.behind conn now polls.asked moves (ran_of ending) f.turn refl x polls.ran

-- so a kernel tells it
pub began-so : (f g : InterleavedState) (conn now : ℕ) (moves : List Transfer) (o : Option Running) (made : List Transfer) (e : Ended) (room : List ℕ)
    → f.turn ≡ turn_shown o made → Polls f conn now moves (ended_shown e room) g → (not (is_some o) && has_run e) ≡ begins f conn now
began-so f g conn now moves o made e room turn polls =
    ap (λ b. b && has_run e) (free-shown o made ∙ ap is_none (sym turn))
    ∙ ap (λ b. is_none f.turn && b) (run-shown e room)
    ∙ sym (polls-began f g conn now moves (ended_shown e room) polls)
