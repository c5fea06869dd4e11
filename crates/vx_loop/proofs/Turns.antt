-- The turn of connection 1's call, from its arrival to its answer.
use Rattle.std.proofs.Common.{◌≡◌, ◌==◌, ◌≤◌, ℕ, Bool, true, false, cond, List, [], ◌∷◌, ◌++◌, Option, Some, None, refl, sym, ap, ◌∙◌, subst, arith, append_assoc, append-nil}
use Rattle.std.specs.Prelude.{is_some}
use Rattle.std.specs.Option.{option_map}
use Rattle.std.specs.List.{list_all, flat_map}
use Rattle.std.proofs.lemmas.Bool.{false≢true, and_parts, eqb-true}
use Rattle.std.proofs.lemmas.Option.{none-some, same_Some}
use Rattle.vx_calls.specs.Reply.{Reply}
use Rattle.vx_488.specs.declared.transfers.Transfer.{Transfer}
use Rattle.vx_rules.specs.Lists.{along}
use Rattle.vx_calls.specs.declared.calls.Role.{Role}
use Rattle.vx_calls.specs.declared.calls.Role.TheVariants as role
use Rattle.vx_rules.specs.State.{Pending, Connection, Tables, connection_at, pending_at, lives_as, has_role_of, same_role}
use Rattle.vx_flow.specs.Event.{Event, Answer, Begin, Move, Dial}
use Rattle.vx_flow.specs.InterleavedState.{InterleavedState, Turn, turn_of, moves_of, turn_after}
use Rattle.vx_flow.specs.InterleavedStep.{interleaved_step}
use Rattle.vx_flow.specs.Does.{Step}
use Rattle.vx_flow.specs.Frames.{TablesAfter, moves_by, moment_after, lives_by}
use Rattle.vx_flow.specs.Linearization.{linearization_from}
use Rattle.vx_flow.specs.Sound.{IsSound}
use Rattle.vx_flow.specs.Poll.{Ending, Answered, Waited, Dialed, Polls, begins, moved_events, run_events, end_events, is_broken}
use Rattle.vx_flow.proofs.Laws.{interleaved-does, interleaved-frame}
use Rattle.vx_rules.proofs.Laws.Rows.{pending-over}
use Rattle.vx_rules.proofs.Laws.Lists.{along-none}
use Rattle.vx_flow.proofs.Laws.Linearizing.{interleaved-goes}
use Rattle.vx_loop.specs.Exchanges.{of_turn}

-- a turn that is under way is connection 1's
abbrev pub IsOwn : Option Turn → Type 0
IsOwn turn = (u : Turn) → turn ≡ Some u → u.connection ≡ 1

-- what the turn of connection 1 has made
abbrev pub made_by : Option Turn → List Transfer
made_by turn = moves_of (turn_of turn 1)

-- ---- one event of a turn

-- it leaves the tables
tables-stay : (e : Event) (t u : Tables) → of_turn e ≡ true → TablesAfter t e u → u ≡ t
tables-stay (Begin conn now) t u is after = after
tables-stay (Move conn moves) t u is after = after
tables-stay (Dial conn now) t u is after = after
tables-stay _ t u is after = absurd (false≢true is)

-- what it has made then
abbrev Makes : Option Turn → Event → Type 0
Makes turn e = (made_by (turn_after turn e) ≡ made_by turn ++ moves_by e) × (IsOwn turn → IsOwn (turn_after turn e))

one-is : (conn : ℕ) → (conn == 1) ≡ true → conn ≡ 1
one-is conn h = eqb-true conn 1 h

begin-makes : (conn now : ℕ) → (conn == 1) ≡ true → Makes None (Begin conn now)
begin-makes conn now is =
    let made : List Transfer → Bool → List Transfer = λ ms b. moves_of (cond b (Some (record { connection = conn; begun = now; moves = ms })) None) in
    (ap (made []) is, λ own u h. (let same : record { connection = conn; begun = now; moves = [] } ≡ u = same_Some _ u h in ap (λ (v : Turn). v.connection) (sym same) ∙ one-is conn is))

move-makes : (u : Turn) (conn : ℕ) (moves : List Transfer) → (conn == 1) ≡ true → u.connection ≡ conn → Makes (Some u) (Move conn moves)
move-makes u conn moves is here =
    let one : (u.connection == 1) ≡ true = ap (λ n. n == 1) here ∙ is in
    let made : List Transfer → Bool → List Transfer = λ ms b. moves_of (cond b (Some (record u { moves = ms })) None) in (
      ap (made (u.moves ++ moves)) one ∙ sym (ap (λ ms. ms ++ moves) (ap (made u.moves) one)),
      λ own v h. (let same : record u { moves = u.moves ++ moves } ≡ v = same_Some _ v h in ap (λ (w : Turn). w.connection) (sym same) ∙ own u refl),
    )

dial-makes : (turn : Option Turn) (conn now : ℕ) → Makes turn (Dial conn now)
dial-makes None conn now = (refl, λ own. own)
dial-makes (Some u) conn now = (sym (append-nil (made_by (Some u))), λ own. own)

step-makes : (e : Event) (f g : InterleavedState) → of_turn e ≡ true → Step f e g → Makes f.turn e
step-makes (Begin conn now) f g is d = subst (λ turn. Makes turn (Begin conn now)) (sym d.no_turn) (begin-makes conn now is)
step-makes (Move conn moves) f g is d = subst (λ turn. Makes turn (Move conn moves)) (sym d.under_way) (move-makes d.turn conn moves is d.of_call)
step-makes (Dial conn now) f g is d = dial-makes f.turn conn now
step-makes _ f g is d = absurd (false≢true is)

-- the gateway of one thread has no entry of it
linearizes-none : (turn : Option Turn) (e : Event) (rest : List Event) → of_turn e ≡ true → linearization_from turn (e ∷ rest) ≡ linearization_from (turn_after turn e) rest
linearizes-none turn (Begin conn now) rest is = refl
linearizes-none turn (Move conn moves) rest is = refl
linearizes-none turn (Dial conn now) rest is = refl
linearizes-none turn _ rest is = absurd (false≢true is)

-- the moments that these events tell are no later than this one
abbrev IsBy : ℕ → List Event → Type 0
IsBy now [] = Unit {0}
IsBy now (e ∷ es) = ((moment : ℕ) → moment ≤ now → moment_after moment e ≤ now) × IsBy now es

-- ---- such events, one after the other

pub record TurnRun (f g : InterleavedState) (es : List Event) : Type 0 where
  pub tables : g.state.tables ≡ f.state.tables
  pub made : made_by g.turn ≡ made_by f.turn ++ flat_map moves_by es
  pub own : IsOwn f.turn → IsOwn g.turn
  pub late : (now : ℕ) → IsBy now es → f.state.moment ≤ now → g.state.moment ≤ now
  pub linearized : (rest : List Event) → linearization_from f.turn (es ++ rest) ≡ linearization_from g.turn rest
  pub sound : IsSound g

turn-step : (f mid g : InterleavedState) (e : Event) (es : List Event) → IsSound f → of_turn e ≡ true → interleaved_step f e ≡ Some mid → TurnRun mid g es → TurnRun f g (e ∷ es)
turn-step f mid g e es sound is h rest =
    let frame = interleaved-frame f mid e h in
    let after : mid.turn ≡ turn_after f.turn e = frame.turn_is in
    let makes = step-makes e f mid is (interleaved-does f mid e h).step in
    record {
      tables = rest.tables ∙ tables-stay e f.state.tables mid.state.tables is frame.tables;
      made =
          rest.made ∙ ap (λ t. made_by t ++ flat_map moves_by es) after ∙ ap (λ ms. ms ++ flat_map moves_by es) makes.0
          ∙ append_assoc (made_by f.turn) (moves_by e) (flat_map moves_by es);
      own = λ own. rest.own (subst IsOwn (sym after) (makes.1 own));
      late = λ now told late. rest.late now told.1 (subst (λ m. m ≤ now) (sym frame.moment_is) (told.0 f.state.moment late));
      linearized = λ later. linearizes-none f.turn e (es ++ later) is ∙ ap (λ t. linearization_from t (es ++ later)) (sym after) ∙ rest.linearized later;
      sound = rest.sound;
    }

pub turn-run : (es : List Event) (f g : InterleavedState) → IsSound f → list_all of_turn es ≡ true → along interleaved_step (Some f) es ≡ Some g → TurnRun f g es
turn-run [] f g sound are h =
    subst (λ x. TurnRun f x []) (same_Some f g h)
    (record { tables = refl; made = sym (append-nil (made_by f.turn)); own = λ own. own; late = λ now told late. late; linearized = λ rest. refl; sound = sound })
turn-run (e ∷ es) f g sound are h =
    let parts = and_parts (of_turn e) (list_all of_turn es) are in
    by (interleaved_step f e) refl h (λ mid s x. turn-run es mid g s parts.1 x) parts.0
  where
    by : (o : Option InterleavedState) → interleaved_step f e ≡ o → along interleaved_step o es ≡ Some g
        → ((mid : InterleavedState) → IsSound mid → along interleaved_step (Some mid) es ≡ Some g → TurnRun mid g es) → of_turn e ≡ true → TurnRun f g (e ∷ es)
    by None is x rest own = absurd (none-some g (sym (along-none interleaved_step es) ∙ x))
    by (Some mid) is x rest own =
        turn-step f mid g e es sound own is (rest mid (interleaved-goes e f mid f.state.moment sound (omega arith) is).sound x)

-- ---- who lives

abbrev by_role : Option Role → Bool
by_role None = false
by_role (Some r) = same_role r role.Core

-- whether connection 1 lives is told by its role
role-lives : (o : Option Connection) → has_role_of role.Core o ≡ by_role (option_map (λ (c : Connection). c.role) o)
role-lives None = refl
role-lives (Some c) = refl

-- an event by which no connection comes or goes leaves it
pub life-stays : (f g : InterleavedState) (e : Event) → lives_by e ≡ None → interleaved_step f e ≡ Some g
    → lives_as g.state.tables 1 role.Core ≡ lives_as f.state.tables 1 role.Core
life-stays f g e none h =
    role-lives (connection_at g.state.tables 1)
    ∙ ap by_role ((interleaved-frame f g e h).roles 1 (λ is. none-some 1 (sym none ∙ is)))
    ∙ sym (role-lives (connection_at f.state.tables 1))

-- ---- an answer

-- its turn is over
turn-over : (turn : Option Turn) (now : ℕ) (failed : Bool) (dialed : Option Bool) (level : Bool) (told : Reply) → IsOwn turn
    → turn_after turn (Answer 1 now failed dialed level told) ≡ None
turn-over None now failed dialed level told own = refl
turn-over (Some u) now failed dialed level told own =
    let one : (u.connection == 1) ≡ true = ap (λ n. n == 1) (own u refl) in
    ap (λ b. cond b None (Some u)) one

module _ (f g : InterleavedState) (now : ℕ) (failed : Bool) (dialed : Option Bool) (level : Bool) (told : Reply) (h : interleaved_step f (Answer 1 now failed dialed level told) ≡ Some g) where
  pub answer-ends : pending_at g.state.tables 1 ≡ None
  answer-ends =
      let behind = (interleaved-frame f g (Answer 1 now failed dialed level told) h).tables in
      ap (λ (t : Tables). pending_at t 1) behind.over_is ∙ pending-over behind.after 1

  answer-moment : g.state.moment ≡ now
  answer-moment = (interleaved-frame f g (Answer 1 now failed dialed level told) h).moment_is

  pub answer-over : IsOwn f.turn → g.turn ≡ None
  answer-over own = (interleaved-frame f g (Answer 1 now failed dialed level told) h).turn_is ∙ turn-over f.turn now failed dialed level told own

-- ---- a poll

-- the events of a poll before its end are of the turn
pub run-of : (f : InterleavedState) (now : ℕ) (moves : List Transfer) → list_all of_turn (run_events f 1 now moves) ≡ true
run-of f now moves = by (begins f 1 now) moves where
  by : (begun : Bool) (ts : List Transfer) → list_all of_turn (cond begun (Begin 1 now ∷ []) [] ++ moved_events 1 ts) ≡ true
  by true [] = refl
  by true (t ∷ ts) = refl
  by false [] = refl
  by false (t ∷ ts) = refl

-- and they tell its moment
run-by : (f : InterleavedState) (now : ℕ) (moves : List Transfer) → IsBy now (run_events f 1 now moves)
run-by f now moves = by (begins f 1 now) moves where
  by : (begun : Bool) (ts : List Transfer) → IsBy now (cond begun (Begin 1 now ∷ []) [] ++ moved_events 1 ts)
  by true [] = ((λ moment late. omega arith), tt)
  by true (t ∷ ts) = ((λ moment late. omega arith), ((λ moment late. late), tt))
  by false [] = tt
  by false (t ∷ ts) = ((λ moment late. late), tt)

-- what a poll leaves, by how it ends: no call and no turn; or the call, and its turn at most
abbrev pub Leaves : Ending → InterleavedState → Type 0
Leaves (Answered ran level told) g = (pending_at g.state.tables 1 ≡ None) × (g.turn ≡ None)
Leaves (Waited why) g = (is_some (pending_at g.state.tables 1) ≡ true) × IsOwn g.turn
Leaves (Dialed host port) g = (is_some (pending_at g.state.tables 1) ≡ true) × IsOwn g.turn

-- its moment, and who lives, too
pub record LeavesAll (old : InterleavedState) (now : ℕ) (ending : Ending) (g : InterleavedState) : Type 0 where
  pub leaves : Leaves ending g
  pub late : g.state.moment ≤ now
  pub lives_on : lives_as g.state.tables 1 role.Core ≡ lives_as old.state.tables 1 role.Core

module _ (old behind : InterleavedState) (now : ℕ) (moves : List Transfer) (p : Pending) (own : IsOwn old.turn) (run : TurnRun old behind (run_events old 1 now moves))
    (at : pending_at old.state.tables 1 ≡ Some p) (late : old.state.moment ≤ now) where
  abbrev alive : Tables → Bool
  alive t = lives_as t 1 role.Core

  leaves-by : (last : InterleavedState) (ending : Ending) → along interleaved_step (Some behind) (end_events 1 now ending) ≡ Some last → LeavesAll old now ending last
  leaves-by last (Answered ran level told) ended =
      let is = answer-moment behind last now (is_broken ran) None level told ended in
      record {
        leaves =
            (answer-ends behind last now (is_broken ran) None level told ended, answer-over behind last now (is_broken ran) None level told ended (run.own own));
        late = omega arith;
        lives_on = life-stays behind last (Answer 1 now (is_broken ran) None level told) refl ended ∙ ap alive run.tables;
      }
  leaves-by last (Waited why) ended =
      let here : is_some (pending_at behind.state.tables 1) ≡ true = ap (λ (t : Tables). is_some (pending_at t 1)) run.tables ∙ ap is_some at in
      subst (LeavesAll old now (Waited why)) (same_Some behind last ended)
      (record { leaves = (here, run.own own); late = run.late now (run-by old now moves) late; lives_on = ap alive run.tables })
  leaves-by last (Dialed host port) ended =
      let more = turn-run (Dial 1 now ∷ []) behind last run.sound refl ended in
      record {
        leaves = (ap (λ (t : Tables). is_some (pending_at t 1)) (more.tables ∙ run.tables) ∙ ap is_some at, more.own (run.own own));
        late = let is = (interleaved-frame behind last (Dial 1 now) ended).moment_is in omega arith;
        lives_on = ap alive (more.tables ∙ run.tables);
      }

pub poll-leaves : (old new : InterleavedState) (now : ℕ) (moves : List Transfer) (ending : Ending) → IsSound old → IsOwn old.turn → (polls : Polls old 1 now moves ending new)
    → LeavesAll old now ending polls.last
poll-leaves old new now moves ending sound own polls =
    let run = turn-run (run_events old 1 now moves) old polls.behind sound (run-of old now moves) polls.runs_to in
    leaves-by old polls.behind now moves polls.asked own run polls.call_at polls.late polls.last ending polls.ended
