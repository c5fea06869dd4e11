-- What becomes of a line whose event the gateway of one thread takes, or doesn't.
use Rattle.std.proofs.Common.{◌≡◌, ℕ, Bool, true, false, not, ◌&&◌, List, [], ◌∷◌, ◌++◌, is_some, is_none, option_map, Option, Some, None, Result, Err, ◌≤◌, nat_lt, cond, refl, sym, ap, subst, ◌∙◌}
use Rattle.std.proofs.lemmas.Bool.{le-ltb}
use Rattle.vx_trace.specs.Text.{is_timed}
use Rattle.vx_history.specs.Shown.{Timed}
use Rattle.vx_history.specs.declared.cause.Cause.TheVariants as cause
use Rattle.vx_calls.specs.declared.calls.Role.{Role}
use Rattle.vx_calls.specs.declared.codes.ErrorCode.{ErrorCode}
use Rattle.std.proofs.lemmas.Option.{same_Some}
use Rattle.vx_calls.specs.declared.calls.Proc.{Proc}
use Rattle.vx_codec.specs.Answered.{Outcome}
use Rattle.vx_rules.specs.State.{Pending}
use Rattle.vx_rules.specs.Calls.{proc_of, is_bus_call}
use Rattle.vx_calls.specs.Call.{Call}
use Rattle.vx_calls.specs.Call as call
use Rattle.vx_calls.specs.Reply.{Reply}
use Rattle.vx_rules.specs.Lists.{along}
use Rattle.vx_rules.specs.SrqState.{Given, Channel}
use Rattle.vx_rules.specs.State.{State}
use Rattle.vx_rules.specs.AtomicStep.{atomic_step}
use Rattle.vx_488.specs.declared.transfers.Transfer.{Transfer}
use Rattle.vx_rules.specs.Entry as entry
use Rattle.vx_flow.specs.Event.{Event, Up, Down, Arrive, Answer, Abort, Sample, Take, Move, Begin}
use Rattle.vx_flow.specs.InterleavedState.{Turn, turn_after, turn_of}
use Rattle.vx_flow.specs.Linearization.{linearized}
use Rattle.vx_history.specs.declared.cause.Stop.{Stop}
use Rattle.vx_history.specs.declared.cause.Stop.TheVariants as stop
use Rattle.vx_history.specs.declared.checker.Begun.{Begun}
use Rattle.vx_history.specs.CheckState.{CheckState, Kept, Free}
use Rattle.vx_history.specs.Saying.{happens_if, lacks_turn, ends_turn, has_turn, says}
use Rattle.vx_history.specs.Replies.{error_told}
use Rattle.vx_history.specs.Taking.{Taken, Spoiled, led, happens, taken_so, kept_after, is_early, at_moment, takes}
use Rattle.vx_history.specs.Stepping.{EndsTake, EndsStep, turn_behind, turn_shown, needs_bus}

-- the gateway takes it
pub taken : (s : CheckState) (kept : List Kept) (e : Event) (g : State) (turn : Option Turn)
    → along atomic_step (Some s.gateway) (linearized s.turn e) ≡ Some g → turn_after s.turn e ≡ turn
    → (events : List Event) × (happens s kept e ≡ Taken events (record { gateway = g; turn = turn; kept = kept; moment = s.moment; next = Free }))
taken s kept e g turn led_to turned = (
  e ∷ [],
  ap (led s kept e) led_to
      ∙ ap (λ t. Taken (e ∷ []) (record { gateway = g; turn = t; kept = kept; moment = s.moment; next = Free })) turned,
)

-- it doesn't
pub stopped : (s : CheckState) (kept : List Kept) (e : Event) (found : Option State) (why : Stop) (g : State) (now : CheckState)
    → along atomic_step (Some s.gateway) (linearized s.turn e) ≡ found → EndsStep found (Err why) g → EndsTake (happens s kept e) (Err why) now
stopped s kept e found (stop.Spoiled why) g now led_to ends = ap (led s kept e) (led_to ∙ ends.0) ∙ ap Spoiled (sym ends.1)
stopped s kept e found stop.NoMemory g now led_to ends = tt

-- ---- the turn behind an event: it stays, but for the answer to its call and the end of its connection

pub turn-up : (turn : Option Turn) (conn : ℕ) (r : Role) → turn_after turn (Up conn r) ≡ turn
turn-up None conn r = refl
turn-up (Some u) conn r = refl

pub turn-arrive : (turn : Option Turn) (conn : ℕ) (asked : Call) (now : ℕ) → turn_after turn (Arrive conn asked now) ≡ turn
turn-arrive None conn asked now = refl
turn-arrive (Some u) conn asked now = refl

pub turn-abort : (turn : Option Turn) (conn lid : ℕ) (error : ErrorCode) → turn_after turn (Abort conn lid error) ≡ turn
turn-abort None conn lid error = refl
turn-abort (Some u) conn lid error = refl

pub turn-sample : (turn : Option Turn) (now : ℕ) (level : Bool) → turn_after turn (Sample now level) ≡ turn
turn-sample None now level = refl
turn-sample (Some u) now level = refl

pub turn-take : (turn : Option Turn) (conn chan : ℕ) (given : Given) → turn_after turn (Take conn chan given) ≡ turn
turn-take None conn chan given = refl
turn-take (Some u) conn chan given = refl

pub turn-down : (turn : Option Turn) (conn : ℕ) → turn_after turn (Down conn) ≡ turn_behind turn conn
turn-down None conn = refl
turn-down (Some u) conn = refl

pub turn-answer : (turn : Option Turn) (conn now : ℕ) (failed : Bool) (dialed : Option Bool) (level : Bool) (r : Reply)
    → turn_after turn (Answer conn now failed dialed level r) ≡ turn_behind turn conn
turn-answer None conn now failed dialed level r = refl
turn-answer (Some u) conn now failed dialed level r = refl

-- ---- what comes to an entry

pub answer-same : (g : State) (conn now b c : ℕ) (ms ns : List Transfer) (f h : Bool) (dialed : Option Bool) (l m : Bool) (r : Reply) → b ≡ c → ms ≡ ns → f ≡ h → l ≡ m
    → atomic_step g (entry.Answer conn now c ns h dialed m r) ≡ atomic_step g (entry.Answer conn now b ms f dialed l r)
answer-same g conn now b c ms ns f h dialed l m r bs mss fs ls =
    ap (λ x. atomic_step g (entry.Answer conn now x ns h dialed m r)) (sym bs)
    ∙ ap (λ x. atomic_step g (entry.Answer conn now b x h dialed m r)) (sym mss)
    ∙ ap (λ x. atomic_step g (entry.Answer conn now b ms x dialed m r)) (sym fs)
    ∙ ap (λ x. atomic_step g (entry.Answer conn now b ms f dialed x r)) (sym ls)

pub down-same : (g : State) (conn : ℕ) (ms ns : List Transfer) → ms ≡ ns → atomic_step g (entry.Down conn ns) ≡ atomic_step g (entry.Down conn ms)
down-same g conn ms ns same = ap (λ x. atomic_step g (entry.Down conn x)) (sym same)

-- a turn makes transfers
pub turn-move : (turn : Option Begun) (moves more : List Transfer) (conn : ℕ) → is_some (turn_of (turn_shown turn moves) conn) ≡ true
    → turn_after (turn_shown turn moves) (Move conn more) ≡ turn_shown turn (moves ++ more)
turn-move None moves more conn is = cc
turn-move (Some b) moves more conn is = refl

-- where a line may stand its event happens
pub here : (s : CheckState) (holds : Bool) (e : Event) → holds ≡ true → taken_so s (happens_if holds e) ≡ happens s (kept_after s.kept e) e
here s holds e is = ap (λ b. taken_so s (happens_if b e)) is

-- a turn begins
pub turn-begin : (turn : Option Turn) (conn now : ℕ) → turn_after turn (Begin conn now) ≡ Some (record { connection = conn; begun = now; moves = [] })
turn-begin None conn now = refl
turn-begin (Some u) conn now = refl

pub none-shown : (turn : Option Begun) (moves : List Transfer) → is_some turn ≡ false → is_none (turn_shown turn moves) ≡ true
none-shown None moves is = refl
none-shown (Some b) moves is = cc

-- ---- a call by its procedure

pub bus-by : (asked : Call) → is_bus_call asked ≡ needs_bus (proc_of asked)
bus-by call.Null = refl
bus-by (call.CreateLink client lock lock_timeout device) = refl
bus-by (call.Write lid io_timeout lock_timeout flags bytes) = refl
bus-by (call.Read lid request io_timeout lock_timeout flags term) = refl
bus-by (call.ReadStb generic) = refl
bus-by (call.Trigger generic) = refl
bus-by (call.Clear generic) = refl
bus-by (call.Remote generic) = refl
bus-by (call.Local generic) = refl
bus-by (call.Lock lid flags lock_timeout) = refl
bus-by (call.Unlock lid) = refl
bus-by (call.EnableSrq lid enable handle) = refl
bus-by (call.Docmd lid flags io_timeout lock_timeout cmd big size bytes) = refl
bus-by (call.DestroyLink lid) = refl
bus-by (call.CreateIntr host port prog vers family) = refl
bus-by call.DestroyIntr = refl
bus-by (call.DeviceAbort lid) = refl

-- a call that lacks its turn, by its procedure
pub lacks-by : (s : CheckState) (conn : ℕ) (p : Pending) (outcome : Outcome) (procedure : Proc) → proc_of p.call ≡ procedure
    → lacks_turn s conn p outcome ≡ (needs_bus procedure && ends_turn (error_told outcome) && not (has_turn s conn))
lacks-by s conn p outcome procedure is =
    ap (λ b. b && ends_turn (error_told outcome) && not (has_turn s conn)) (bus-by p.call ∙ ap needs_bus is)

-- the call that a connection has, by its procedure
pub some-call : (o : Option Pending) (procedure : Proc) → option_map (λ p. proc_of p.call) o ≡ Some procedure → (p : Pending) × (o ≡ Some p) × (proc_of p.call ≡ procedure)
some-call None procedure is = cc
some-call (Some p) procedure is = (p, refl, same_Some (proc_of p.call) procedure is)

-- the channel that it has, by its number
pub some-channel : (o : Option Channel) (number : ℕ) → option_map (λ c. c.number) o ≡ Some number → (c : Channel) × (o ≡ Some c) × (c.number ≡ number)
some-channel None number is = cc
some-channel (Some c) number is = (c, refl, same_Some c.number number is)

-- ---- a line with a moment

-- that is no earlier than the greatest so far
pub come-at : (s : CheckState) (t : Timed) → is_timed t.line ≡ true → s.moment ≤ t.moment → (result : Result Unit Stop) (now : CheckState)
    → EndsTake (taken_so (record s { moment = t.moment }) (says (record s { moment = t.moment }) s.next t.line)) result now → EndsTake (takes s (Some t)) result now
come-at s t timed late result now ends =
    let early : is_early s t ≡ false = ap (λ b. b && nat_lt t.moment s.moment) timed ∙ le-ltb t.moment s.moment late in
    let moved : at_moment s t ≡ record s { moment = t.moment } = ap (λ b. record s { moment = cond b t.moment s.moment }) timed in
    subst (λ b. EndsTake (cond b (Spoiled cause.Moment) (taken_so (at_moment s t) (says (at_moment s t) s.next t.line))) result now) (sym early)
    (subst (λ x. EndsTake (taken_so x (says x s.next t.line)) result now) (sym moved) ends)
