-- What the calls of a link tell, one after another.
use Rattle.std.proofs.Common.{◌≡◌, ℕ, ◌+◌, ◌-◌, ◌≤◌, ◌<◌, true, false, List, length, take, drop, Option, Some, None, IfSome, Result, Ok, Err, is_err, sym, ◌∙◌, subst, arith, length-drop}
use Rattle.std.proofs.lemmas.List.{take_all}
use Rattle.std.specs.Io.KnownBytes.{Keeps}
use Rattle.vx_io_traits.specs.declared.ReadOut.{ReadOut}
use Rattle.vx_io_traits.specs.declared.WriteOut.{WriteOut}
use Rattle.vx_io_traits.specs.declared.WriteOut.TheVariants as sent
use Rattle.vx_client.specs.Ending.{ErrorTold, TellsEnd, SentFront, And_then, Received, None_yet, And_more, Passes, Breaks, ErrorMade, TellsCalls, TellsSends}
use Rattle.vx_client.specs.Swapped.{returned_by}
use Rattle.vx_client.specs.declared.answers.ClientErr.{ClientErr}
use Rattle.vx_client.specs.declared.answers.ClientErr.TheVariants as err
use Rattle.vx_client.specs.declared.settling.Answer.{Answer}
use Rattle.vx_client.specs.declared.settling.Settled.{Settled}
use Rattle.vx_client.specs.declared.settling.Settled.TheVariants as settled

-- what a send is handed behind a place is what is left of the text
rest-is : (text : List ℕ) (done : ℕ) → take (length text - done) (drop done text) ≡ drop done text
rest-is text done = let len = length-drop done text in take_all (length text - done) (drop done text) (omega arith)

-- one send more
pub sent-on : {L : Type 0} (sends : L → List ℕ → WriteOut → L → Type 0) (first mid now : L) (text : List ℕ) (done count : ℕ) → SentFront sends first text mid done
    → done < length text → sends mid (take (length text - done) (drop done text)) (sent.Took count) now → SentFront sends first text now (done + count)
sent-on sends first mid now text done count front more told =
    And_then mid now done count front more (subst (λ bytes. sends mid bytes (sent.Took count) now) (rest-is text done) told)

-- a send that failed
pub sent-broken : {L : Type 0} (sends : L → List ℕ → WriteOut → L → Type 0) (first mid now : L) (text : List ℕ) (done : ℕ) → SentFront sends first text mid done
    → done < length text → sends mid (take (length text - done) (drop done text)) sent.Failed now → Breaks sends first text now
sent-broken sends first mid now text done front more told = record {
  before = mid;
  done = done;
  front = front;
  more = more;
  last = subst (λ bytes. sends mid bytes sent.Failed now) (rest-is text done) told;
}

-- all was sent
pub sent-whole : {L : Type 0} (sends : L → List ℕ → WriteOut → L → Type 0) (first now : L) (text : List ℕ) (done : ℕ) → SentFront sends first text now done
    → done ≤ length text → length text ≤ done → SentFront sends first text now (length text)
sent-whole sends first now text done front within all = let same : done ≡ length text = omega arith in subst (SentFront sends first text now) same front

-- a sending that answered no error told of the whole text
pub sends-whole : {L E : Type 0} (sends : L → List ℕ → WriteOut → L → Type 0) (old new : L) (text sent_text : List ℕ) (r : Result (Unit {0}) E) → sent_text ≡ text → is_err r ≡ false
    → TellsSends sends old new sent_text r → SentFront sends old text new (length text)
sends-whole sends old new text sent_text (Ok done) is h told = subst (λ xs. SentFront sends old xs new (length xs)) is told
sends-whole sends old new text sent_text (Err failed) is h told = absurd (cc)

-- one that answered an error told of the break
pub sends-broken : {L E : Type 0} (sends : L → List ℕ → WriteOut → L → Type 0) (old new : L) (text sent_text : List ℕ) (r : Result (Unit {0}) E) → sent_text ≡ text → is_err r ≡ true
    → TellsSends sends old new sent_text r → Breaks sends old text new
sends-broken sends old new text sent_text (Ok done) is h told = absurd (cc)
sends-broken sends old new text sent_text (Err failed) is h told = subst (λ xs. Breaks sends old xs new) is told

-- what a link had left behind the sends is what it had before them
pub all-kept : (old mid : Option (List ℕ)) (got : List ℕ) → Keeps old mid → IfSome mid (λ all. all ≡ got) → IfSome old (λ all. all ≡ got)
all-kept None mid got keeps h = tt
all-kept (Some all) None got keeps h = absurd keeps
all-kept (Some all) (Some rest) got keeps h = sym keeps ∙ h

-- receives behind others
pub received-both : {L : Type 0} (receives : L → List ℕ → ReadOut → List ℕ → L → Type 0) (a b c : L) → Received receives a b → Received receives b c → Received receives a c
received-both receives a b c before None_yet = before
received-both receives a b c before (And_more mid now count rest one) = And_more mid now count (received-both receives a b mid before rest) one

-- ---- what a call of the client says of its last call of the link

error-last : {L : Type 0} (receives : L → List ℕ → ReadOut → List ℕ → L → Type 0) (sends : L → List ℕ → WriteOut → L → Type 0) (old new : L) (text : List ℕ) (e : ClientErr)
    → ErrorMade receives sends old new text e → ErrorTold receives sends new e
error-last receives sends old new text err.Closed made = (made.ends.before, made.ends.last)
error-last receives sends old new text err.ReadFault made = (made.ends.before, made.ends.last)
error-last receives sends old new text err.WriteFault made = (made.before, drop made.done text, made.last)
error-last receives sends old new text (err.BadReply n) made = tt
error-last receives sends old new text (err.Device n) made = tt
error-last receives sends old new text (err.Rpc r) made = tt
error-last receives sends old new text err.Spent made = tt

-- of all its calls the last one
pub calls-last : {L X : Type 0} (receives : L → List ℕ → ReadOut → List ℕ → L → Type 0) (sends : L → List ℕ → WriteOut → L → Type 0) (old new : L) (text : List ℕ)
    (result : Result X ClientErr) → TellsCalls receives sends old new text result → TellsEnd receives sends new result
calls-last receives sends old new text (Ok x) told = tt
calls-last receives sends old new text (Err e) told = error-last receives sends old new text e told

-- an error that is handed on
pub last-error : {L X : Type 0} (receives : L → List ℕ → ReadOut → List ℕ → L → Type 0) (sends : L → List ℕ → WriteOut → L → Type 0) (now : L) (e : ClientErr)
    (result : Result X ClientErr) → ErrorTold receives sends now e → result ≡ Err e → TellsEnd receives sends now result
last-error receives sends now e result told is = subst (TellsEnd receives sends now) (sym is) told

pub calls-error : {L X : Type 0} (receives : L → List ℕ → ReadOut → List ℕ → L → Type 0) (sends : L → List ℕ → WriteOut → L → Type 0) (old new : L) (text : List ℕ) (e : ClientErr)
    (result : Result X ClientErr) → ErrorMade receives sends old new text e → result ≡ Err e → TellsCalls receives sends old new text result
calls-error receives sends old new text e result made is = subst (TellsCalls receives sends old new text) (sym is) made

-- whatever the record of an exchange came to
returned-calls : {L : Type 0} (receives : L → List ℕ → ReadOut → List ℕ → L → Type 0) (sends : L → List ℕ → WriteOut → L → Type 0) (old new : L) (text : List ℕ) (len : ℕ)
    (s : Settled) → Passes receives sends old text new → TellsCalls receives sends old new text (returned_by len s)
returned-calls receives sends old new text len (settled.Done a) passes = passes
returned-calls receives sends old new text len (settled.Failed n) passes = passes
returned-calls receives sends old new text len (settled.Refused r) passes = passes
returned-calls receives sends old new text len settled.Bad passes = passes

pub settled-calls : {L : Type 0} (receives : L → List ℕ → ReadOut → List ℕ → L → Type 0) (sends : L → List ℕ → WriteOut → L → Type 0) (old new : L) (text : List ℕ) (len : ℕ)
    (s : Settled) (result : Result Answer ClientErr) → result ≡ returned_by len s → Passes receives sends old text new → TellsCalls receives sends old new text result
settled-calls receives sends old new text len s result is passes = subst (TellsCalls receives sends old new text) (sym is) (returned-calls receives sends old new text len s passes)
