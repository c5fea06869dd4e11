-- Each kind of line of a run, read behind a state that stands for the gateway before it.
use Rattle.std.proofs.Common.{◌≡◌, ℕ, ◌<◌, ◌≤◌, Bool, true, false, cond, not, ◌&&◌, ◌==◌, List, [], ◌∷◌, ◌++◌, length, Option, Some, None, is_some, is_none, refl, sym, ap, ◌∙◌, subst, arith, eqb-true, nat_lt, length-append}
use Rattle.std.specs.List.{All}
use Rattle.std.proofs.lemmas.Bool.{and_right, and_from, cond-true, cond-false, le-ltb}
use Rattle.std.proofs.lemmas.Option.{same_Some, cond_some}
use Rattle.std.proofs.lemmas.List.Elements.{All-cons, All-nil}
use Rattle.vx_lemmas.proofs.Laws.Conditions.{eqb-self}
use Rattle.vx_lemmas.proofs.Laws.Options.{mapped, gone_on}
use Rattle.vx_lemmas.proofs.Laws.Lists.{found_passes}
use Rattle.vx_calls.specs.declared.codes.ErrorCode.{ErrorCode}
use Rattle.vx_calls.specs.ErrorCode.{error_number}
use Rattle.vx_calls.specs.Call.{Call}
use Rattle.vx_calls.specs.Reply.{Reply}
use Rattle.vx_calls.specs.Reply as reply
use Rattle.vx_488.specs.declared.transfers.Transfer.{Transfer}
use Rattle.vx_record.specs.Fragments.{record_of, last_header}
use Rattle.vx_rpc.specs.Wording.{success_message}
use Rattle.vx_codec.specs.Answered.{Outcome}
use Rattle.vx_codec.specs.Answered as told
use Rattle.vx_trace.specs.Output.{Output}
use Rattle.vx_trace.specs.Output as line
use Rattle.vx_trace.specs.Text.{IsByteTransfer, is_timed}
use Rattle.vx_rules.specs.State.{Pending, pending_at}
use Rattle.vx_rules.specs.Calls.{proc_of, is_bus_call, asks_dial}
use Rattle.vx_flow.specs.Event.{Event, Arrive, Answer, Begin, Move, Dial}
use Rattle.vx_flow.specs.InterleavedState.{Turn, InterleavedState, before_turn, turn_of}
use Rattle.vx_flow.specs.InterleavedStep.{interleaved_step}
use Rattle.vx_flow.specs.Does.{IsAnswered}
use Rattle.vx_flow.specs.Poll.{at_moment}
use Rattle.vx_flow.proofs.Laws.Kept.{same-before}
use Rattle.vx_flow.proofs.Laws.{interleaved-does, interleaved-frame, later-sound, turn-own}
use Rattle.vx_exchange.specs.Meaning.{reply_record}
use Rattle.vx_exchange.specs.Doing.{reply_error}
use Rattle.vx_history.specs.Shown.{Timed}
use Rattle.vx_history.specs.Replies.{errors, error_of, results_told, error_told, reply_told, if_spelled, reply_of}
use Rattle.vx_history.specs.CheckState.{Kept, Next, Free, Dialed, kept_of, kept_with, xid_at, level_at, tells_level}
use Rattle.vx_history.specs.Saying.{Said, Quiet, Happens, Comes, happens_if, quiet_if, has_turn, ends_turn, level_in, lacks_turn, answers_by, answers_with, answer_says, dial_says, free_says, out_says, says}
use Rattle.vx_history.specs.Taking.{kept_after, taken_so, takes}
use Rattle.vx_history.specs.Laws.{ReplyLaw}
use Rattle.vx_history.proofs.FormedReads.{Reads, reads-one}
use Rattle.vx_history.proofs.FormedAnswers.{TellsOf, answer-tells}
use Rattle.vx_history.proofs.FormedStands.{here, IsOwn, KeptSo, StandsFor, Led, happened, MovesBytes, fit-step, kept-same, kept-answer}

-- ---- a line and its moment

abbrev pub line_at : ℕ → Output → Timed
line_at now line = record { moment = now; line = line }

-- a line whose moment isn't before that of an earlier one is taken as what it says
pub takes-line : (f : InterleavedState) (k : ℕ) (kept : List Kept) (m : ℕ) (next : Next) (now : ℕ) (line : Output) → is_timed line ≡ true → m ≤ now
    → takes (here f k kept m next) (Some (line_at now line)) ≡ taken_so (here f k kept now next) (says (here f k kept now next) next line)
takes-line f k kept m next now line has past =
    cond-false (is_timed line && nat_lt now m) _ _ (and_right (is_timed line) (nat_lt now m) (le-ltb now m past))
    ∙ ap (λ b. taken_so (here f k kept (cond b now m) next) (says (here f k kept (cond b now m) next) next line)) has

same-moment : (now : ℕ) → now ≤ now
same-moment now = omega arith

-- an event of a line happens
pub event-led : (f g : InterleavedState) (k : ℕ) (kept : List Kept) (m now : ℕ) (xids later : ℕ → ℕ) (line : Output) (e : Event) → StandsFor f xids now k kept m → IsOwn line
    → free_says (here f k kept now Free) line ≡ Happens e → interleaved_step f e ≡ Some g → MovesBytes e → KeptSo g (kept_after kept e) later
    → Led f k kept m now later (line ∷ []) (e ∷ []) g
event-led f g k kept m now xids later line e st own said h moved so =
    let hap = happened f g k (kept_after kept e) now e st.fit.bounded.sound st.early h in
    record {
      earlier = hap.earlier;
      later_kept = kept_after kept e;
      seen = now;
      reads =
          reads-one (here f k kept m Free) (line_at now line) (e ∷ []) (here g hap.earlier (kept_after kept e) now Free)
          (takes-line f k kept m Free now line own.is_timed st.past ∙ ap (taken_so (here f k kept now Free)) said ∙ hap.took kept Free);
      stands = record { fit = fit-step f g e st.fit h moved; early = hap.early; past = same-moment now; kept_so = so };
      own = All-cons IsOwn line [] own (All-nil IsOwn);
    }

-- a line says that a call comes
pub comes-led : (f g : InterleavedState) (k : ℕ) (kept : List Kept) (m now : ℕ) (xids later : ℕ → ℕ) (line : Output) (conn xid : ℕ) (asked : Call) → StandsFor f xids now k kept m
    → IsOwn line → free_says (here f k kept now Free) line ≡ Comes conn xid asked → interleaved_step f (Arrive conn asked now) ≡ Some g
    → KeptSo g (kept_with kept (kept_of conn xid asked)) later → Led f k kept m now later (line ∷ []) (Arrive conn asked now ∷ []) g
comes-led f g k kept m now xids later line conn xid asked st own said h so =
    let now_kept = kept_with kept (kept_of conn xid asked) in
    let e = Arrive conn asked now in
    let hap = happened f g k now_kept now e st.fit.bounded.sound st.early h in
    record {
      earlier = hap.earlier;
      later_kept = now_kept;
      seen = now;
      reads =
          reads-one (here f k kept m Free) (line_at now line) (e ∷ []) (here g hap.earlier now_kept now Free)
          (takes-line f k kept m Free now line own.is_timed st.past ∙ ap (taken_so (here f k kept now Free)) said ∙ hap.took kept Free);
      stands = record { fit = fit-step f g e st.fit h tt; early = hap.early; past = same-moment now; kept_so = so };
      own = All-cons IsOwn line [] own (All-nil IsOwn);
    }

-- a line says nothing that happens
pub quiet-led : (f : InterleavedState) (k : ℕ) (kept : List Kept) (m now : ℕ) (xids : ℕ → ℕ) (line : Output) → StandsFor f xids now k kept m → IsOwn line
    → free_says (here f k kept now Free) line ≡ Quiet Free → Led f k kept m now xids (line ∷ []) [] f
quiet-led f k kept m now xids line st own said = record {
  earlier = k;
  later_kept = kept;
  seen = now;
  reads =
      reads-one (here f k kept m Free) (line_at now line) [] (here f k kept now Free)
      (takes-line f k kept m Free now line own.is_timed st.past ∙ ap (taken_so (here f k kept now Free)) said);
  stands = record { fit = st.fit; early = st.early; past = same-moment now; kept_so = st.kept_so };
  own = All-cons IsOwn line [] own (All-nil IsOwn);
}

-- a line asks something of the line behind it, of which an event happens
pub pair-led : (f g : InterleavedState) (k : ℕ) (kept : List Kept) (m now : ℕ) (xids later : ℕ → ℕ) (first second : Output) (next : Next) (e : Event) → StandsFor f xids now k kept m
    → IsOwn first → IsOwn second → free_says (here f k kept now Free) first ≡ Quiet next → says (here f k kept now next) next second ≡ Happens e → interleaved_step f e ≡ Some g
    → MovesBytes e → KeptSo g (kept_after kept e) later → Led f k kept m now later (first ∷ second ∷ []) (e ∷ []) g
pair-led f g k kept m now xids later first second next e st own also asks said h moved so =
    let hap = happened f g k (kept_after kept e) now e st.fit.bounded.sound st.early h in
    let after = here g hap.earlier (kept_after kept e) now Free in
    record {
      earlier = hap.earlier;
      later_kept = kept_after kept e;
      seen = now;
      reads = (
        [],
        here f k kept now next,
        e ∷ [],
        takes-line f k kept m Free now first own.is_timed st.past ∙ ap (taken_so (here f k kept now Free)) asks,
        refl,
        reads-one (here f k kept now next) (line_at now second) (e ∷ []) after
            (takes-line f k kept now next now second also.is_timed (same-moment now) ∙ ap (taken_so (here f k kept now next)) said ∙ hap.took kept next),
      );
      stands = record { fit = fit-step f g e st.fit h moved; early = hap.early; past = same-moment now; kept_so = so };
      own = All-cons IsOwn first (second ∷ []) own (All-cons IsOwn second [] also (All-nil IsOwn));
    }

-- or of which nothing happens
pub pair-quiet : (f : InterleavedState) (k : ℕ) (kept : List Kept) (m now : ℕ) (xids : ℕ → ℕ) (first second : Output) (next : Next) → StandsFor f xids now k kept m
    → IsOwn first → IsOwn second → free_says (here f k kept now Free) first ≡ Quiet next → says (here f k kept now next) next second ≡ Quiet Free
    → Led f k kept m now xids (first ∷ second ∷ []) [] f
pair-quiet f k kept m now xids first second next st own also asks said = record {
  earlier = k;
  later_kept = kept;
  seen = now;
  reads = (
    [],
    here f k kept now next,
    [],
    takes-line f k kept m Free now first own.is_timed st.past ∙ ap (taken_so (here f k kept now Free)) asks,
    refl,
    reads-one (here f k kept now next) (line_at now second) [] (here f k kept now Free)
        (takes-line f k kept now next now second also.is_timed (same-moment now) ∙ ap (taken_so (here f k kept now next)) said),
  );
  stands = record { fit = st.fit; early = st.early; past = same-moment now; kept_so = st.kept_so };
  own = All-cons IsOwn first (second ∷ []) own (All-cons IsOwn second [] also (All-nil IsOwn));
}

-- what leads to a state leads to one that only differs in its moment and its dials
pub led-same : (f g h : InterleavedState) (k : ℕ) (kept : List Kept) (m now : ℕ) (xids : ℕ → ℕ) (lines : List Output) (es : List Event)
    → (first : Led f k kept m now xids lines es g) → before_turn g first.earlier ≡ before_turn h first.earlier → g.turn ≡ h.turn
    → StandsFor h xids now first.earlier first.later_kept first.seen → Led f k kept m now xids lines es h
led-same f g h k kept m now xids lines es first state turn stands = record {
  earlier = first.earlier;
  later_kept = first.later_kept;
  seen = first.seen;
  reads =
      subst (Reads (here f k kept m Free) _ es)
      (ap (λ s. record { gateway = s; turn = g.turn; kept = first.later_kept; moment = first.seen; next = Free }) state
      ∙ ap (λ t. record { gateway = before_turn h first.earlier; turn = t; kept = first.later_kept; moment = first.seen; next = Free }) turn)
      first.reads;
  stands = stands;
  own = first.own;
}

-- a state stands at a later moment of the gateway
pub stands-later : (f : InterleavedState) (xids : ℕ → ℕ) (now k : ℕ) (kept : List Kept) (m at : ℕ) → f.state.moment ≤ at → StandsFor f xids now k kept m
    → StandsFor (at_moment f at) xids now k kept m
stands-later f xids now k kept m at late st =
    let early = st.early in
    record {
      fit = record {
        bounded = record { sound = later-sound f at st.fit.bounded.sound late; bytes = st.fit.bounded.bytes; port = st.fit.bounded.port };
        numbered = st.fit.numbered;
      };
      early = omega (arith, early, late);
      past = st.past;
      kept_so = st.kept_so;
    }

-- ---- what a test chooses

pub happens-so : (b : Bool) (e : Event) → b ≡ true → happens_if b e ≡ Happens e
happens-so true e h = refl
happens-so false e h = cc

pub quiet-so : (b : Bool) → b ≡ true → quiet_if b ≡ Quiet Free
quiet-so true h = refl
quiet-so false h = cc

-- what is said of a record is said of that of the connection
pub out-so : (conn : ℕ) (f : List ℕ → Said) (bytes : List ℕ) → out_says conn f (line.Out conn bytes) ≡ f bytes
out-so conn f bytes = cond-true (conn == conn) _ _ (eqb-self conn)

-- a record has a byte
pub record-some : (text : List ℕ) → 0 < length (record_of text)
record-some text = let both = length-append (last_header (length text)) text in omega (arith, both)

pub out-own : (conn : ℕ) (text : List ℕ) → IsOwn (line.Out conn (record_of text))
out-own conn text = record { whole = record-some text; is_timed = refl }

pub reply-own : (conn xid : ℕ) (r : Reply) → IsOwn (line.Out conn (reply_record xid r))
reply-own conn xid r = out-own conn (success_message xid ++ told.results r)

-- ---- answers

-- a number that tells an error is its own
found-number : (n : ℕ) (e : ErrorCode) → error_of n ≡ Some e → n ≡ error_number e
found-number n e h = sym (eqb-true (error_number e) n (found_passes (λ x. error_number x == n) errors e h))

told-error : (outcome : Outcome) (r : Reply) → reply_told outcome ≡ Some r → error_told outcome ≡ error_number (reply_error r)
told-error told.Null r h = ap (λ x. error_number (reply_error x)) (same_Some reply.Null r h)
told-error (told.CreateLink error lid abort_port max) r h =
    let m = mapped _ (error_of error) r h in found-number error m.0 m.1 ∙ ap (λ x. error_number (reply_error x)) m.2
told-error (told.Write error size) r h =
    let m = mapped _ (error_of error) r h in found-number error m.0 m.1 ∙ ap (λ x. error_number (reply_error x)) m.2
told-error (told.Read error reason bytes) r h =
    let m = mapped _ (error_of error) r h in found-number error m.0 m.1 ∙ ap (λ x. error_number (reply_error x)) m.2
told-error (told.Stb error stb) r h =
    let m = mapped _ (error_of error) r h in found-number error m.0 m.1 ∙ ap (λ x. error_number (reply_error x)) m.2
told-error (told.Docmd error bytes) r h =
    let m = mapped _ (error_of error) r h in found-number error m.0 m.1 ∙ ap (λ x. error_number (reply_error x)) m.2
told-error (told.Error error) r h =
    let m = mapped _ (error_of error) r h in found-number error m.0 m.1 ∙ ap (λ x. error_number (reply_error x)) m.2

-- the error of the reply that results tell
reply-error : (xid : ℕ) (bytes : List ℕ) (outcome : Outcome) (r : Reply) → reply_of xid bytes outcome ≡ Some r → error_told outcome ≡ error_number (reply_error r)
reply-error xid bytes outcome r h =
    let found = gone_on (if_spelled xid bytes) (reply_told outcome) r h in
    let same = cond_some _ found.0 r found.2 in
    told-error outcome found.0 found.1 ∙ ap (λ x. error_number (reply_error x)) same.1

-- the record of a reply is read as the answer that it is
pub answer-reads : ReplyLaw → (f : InterleavedState) (k : ℕ) (kept : List Kept) (now : ℕ) (next : Next) (conn xid : ℕ) (p : Pending) (failed : Bool) (dialed : Option Bool)
    (level : Bool) (r : Reply) → pending_at f.state.tables conn ≡ Some p → xid_at kept conn ≡ xid → level_at kept conn ≡ tells_level p.call
    → TellsOf f conn p failed dialed level r
    → answer_says (here f k kept now next) conn dialed (reply_record xid r) (pending_at f.state.tables conn) ≡ Happens (Answer conn now failed dialed level r)
answer-reads law f k kept now next conn xid p failed dialed level r at xid_is level_is tells =
    let s = here f k kept now next in
    let bytes = reply_record xid r in
    let found = gone_on (reply_of xid bytes) (results_told (proc_of p.call) bytes) r (law (proc_of p.call) xid r tells.form tells.fits) in
    let error = reply-error xid bytes found.0 r found.2 in
    let has : lacks_turn s conn p found.0 ≡ false =
    ap (λ n. is_bus_call p.call && ends_turn n && not (has_turn s conn)) error ∙ tells.in_turn in
    ap (answer_says s conn dialed bytes) at
    ∙ ap (answers_with s conn dialed bytes p) found.1
    ∙ cond-false (lacks_turn s conn p found.0) _ _ has
    ∙ ap (λ x. answers_by s conn dialed (reply_of x bytes found.0)) xid_is
    ∙ ap (answers_by s conn dialed) found.2
    ∙ ap (λ b. Happens (Answer conn now b dialed (level_at kept conn && level_in r) r)) tells.failed_is
    ∙ ap (λ b. Happens (Answer conn now failed dialed (b && level_in r) r)) level_is
    ∙ ap (λ b. Happens (Answer conn now failed dialed b r)) tells.level_is

-- the answer to a call, of which no dial was made
pub out-led : ReplyLaw → (f g : InterleavedState) (k : ℕ) (kept : List Kept) (m now : ℕ) (xids : ℕ → ℕ) (conn : ℕ) (failed level : Bool) (r : Reply)
    → StandsFor f xids now k kept m → interleaved_step f (Answer conn now failed None level r) ≡ Some g
    → Led f k kept m now xids (line.Out conn (reply_record (xids conn) r) ∷ []) (Answer conn now failed None level r ∷ []) g
out-led law f g k kept m now xids conn failed level r st h =
    let a : IsAnswered f conn now _ r g = (interleaved-does f g (Answer conn now failed None level r) h).step in
    let tells = answer-tells f conn now a.asked failed None level r a.after st.fit.bounded a.call_at a.line in
    let so = st.kept_so conn a.asked a.call_at in
    event-led f g k kept m now xids xids (line.Out conn (reply_record (xids conn) r)) (Answer conn now failed None level r) st (reply-own conn (xids conn) r)
    (answer-reads law f k kept now Free conn (xids conn) a.asked failed None level r a.call_at so.0 so.1 tells) h tt
    (kept-answer f g conn now failed None level r kept xids h st.kept_so)

-- the answer to a call of which a dial was made
pub dial-led : ReplyLaw → (f g : InterleavedState) (k : ℕ) (kept : List Kept) (m now : ℕ) (xids : ℕ → ℕ) (conn : ℕ) (failed up level : Bool) (r : Reply)
    → StandsFor f xids now k kept m → interleaved_step f (Answer conn now failed (Some up) level r) ≡ Some g
    → Led f k kept m now xids (line.DialDone conn up ∷ line.Out conn (reply_record (xids conn) r) ∷ []) (Answer conn now failed (Some up) level r ∷ []) g
dial-led law f g k kept m now xids conn failed up level r st h =
    let a : IsAnswered f conn now _ r g = (interleaved-does f g (Answer conn now failed (Some up) level r) h).step in
    let tells = answer-tells f conn now a.asked failed (Some up) level r a.after st.fit.bounded a.call_at a.line in
    let so = st.kept_so conn a.asked a.call_at in
    pair-led f g k kept m now xids xids (line.DialDone conn up) (line.Out conn (reply_record (xids conn) r)) (Dialed conn up) (Answer conn now failed (Some up) level r) st
    (record { whole = tt; is_timed = refl }) (reply-own conn (xids conn) r)
    (ap (dial_says conn up) a.call_at ∙ cond-true (asks_dial a.asked.call) _ _ (tells.dialed_so up refl))
    (out-so conn (λ bytes. answer_says (here f k kept now (Dialed conn up)) conn (Some up) bytes (pending_at f.state.tables conn)) (reply_record (xids conn) r) ∙ answer-reads law f k kept now (Dialed conn up) conn (xids conn) a.asked failed (Some up) level r a.call_at so.0 so.1 tells) h tt
    (kept-answer f g conn now failed (Some up) level r kept xids h st.kept_so)

-- ---- turns

-- a turn begins
pub begin-led : (f g : InterleavedState) (k : ℕ) (kept : List Kept) (m now : ℕ) (xids : ℕ → ℕ) (conn : ℕ) → StandsFor f xids now k kept m → interleaved_step f (Begin conn now) ≡ Some g
    → Led f k kept m now xids (line.Begin conn ∷ []) (Begin conn now ∷ []) g
begin-led f g k kept m now xids conn st h =
    let b = (interleaved-does f g (Begin conn now) h).step in
    event-led f g k kept m now xids xids (line.Begin conn) (Begin conn now) st (record { whole = tt; is_timed = refl })
    (happens-so (is_some (pending_at f.state.tables conn) && is_none f.turn) (Begin conn now)
    (and_from _ _ (ap is_some b.call_at) (ap (λ (t : Option Turn). is_none t) b.no_turn))) h tt
    (kept-same f g (Begin conn now) kept xids h refl st.kept_so)

-- it makes transfers
pub move-led : (f g : InterleavedState) (k : ℕ) (kept : List Kept) (m now : ℕ) (xids : ℕ → ℕ) (conn : ℕ) (moves : List Transfer) → StandsFor f xids now k kept m
    → interleaved_step f (Move conn moves) ≡ Some g → 0 < length moves → All IsByteTransfer moves → Led f k kept m now xids (line.Bus conn moves ∷ []) (Move conn moves ∷ []) g
move-led f g k kept m now xids conn moves st h some bytes =
    let b = (interleaved-does f g (Move conn moves) h).step in
    event-led f g k kept m now xids xids (line.Bus conn moves) (Move conn moves) st (record { whole = some; is_timed = refl })
    (happens-so (is_some (turn_of f.turn conn)) (Move conn moves) (ap is_some (turn-own f.turn conn b.turn b.under_way b.of_call))) h bytes
    (kept-same f g (Move conn moves) kept xids h refl st.kept_so)

-- ---- dials that are asked for

-- a call waits for a dial: nothing is told of it, and the gateway of one thread stays
pub wait_dial-led : (f g : InterleavedState) (k : ℕ) (kept : List Kept) (m now : ℕ) (xids : ℕ → ℕ) (conn : ℕ) → StandsFor f xids now k kept m → interleaved_step f (Dial conn now) ≡ Some g
    → Led f k kept m now xids (line.WaitDial conn ∷ []) [] g
wait_dial-led f g k kept m now xids conn st h =
    let d = (interleaved-does f g (Dial conn now) h).step in
    let frame = interleaved-frame f g (Dial conn now) h in
    let late = frame.late in
    let own : IsOwn (line.WaitDial conn) = record { whole = tt; is_timed = refl } in
    let said : free_says (here f k kept now Free) (line.WaitDial conn) ≡ Quiet Free = quiet-so (is_some (pending_at f.state.tables conn)) (ap is_some d.call_at) in
    let first = quiet-led f k kept m now xids (line.WaitDial conn) st own said in
    let fits = first.stands in
    let soon = fits.early in
    led-same f f g k kept m now xids (line.WaitDial conn ∷ []) [] first
    (ap (λ w. record { tables = f.state.tables; wire = w; moment = first.earlier })
    (sym (same-before f.state.tables f.before f.state.wire f.state.moment f.turn st.fit.bounded.sound.turn_stands))
    ∙ ap (λ (x : InterleavedState). before_turn x first.earlier) (sym d.leads)) (sym frame.turn_is)
    (record {
      fit = fit-step f g (Dial conn now) st.fit h tt;
      early = omega (arith, soon, late);
      past = fits.past;
      kept_so = kept-same f g (Dial conn now) first.later_kept xids h refl fits.kept_so;
    })
