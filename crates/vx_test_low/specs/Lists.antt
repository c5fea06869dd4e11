-- What the worked lists are written with, and what is asked of each.
use Rattle.std.specs.Prelude.{ℕ, ◌+◌, zero, suc, pos, Bool, false, List, [], ◌∷◌, Option, Some, None}
use Rattle.std.specs.Option.{option_map}
use Rattle.vx_calls.specs.declared.codes.ErrorCode.TheVariants as code
use Rattle.vx_calls.specs.Call.{Call}
use Rattle.vx_calls.specs.Call as call
use Rattle.vx_calls.specs.Reply.{Reply}
use Rattle.vx_calls.specs.Reply as reply
use Rattle.vx_488.specs.declared.transfers.Transfer.{Transfer}
use Rattle.vx_488.specs.declared.transfers.Transfer.TheVariants.{Cmd, Put}
use Rattle.vx_flow.specs.Event.{Event, Arrive, Answer}
use Rattle.vx_flow.specs.InterleavedState.{InterleavedState, first_interleaved}
use Rattle.vx_flow.specs.InterleavedStep.{interleaved_step}
use Rattle.vx_flow.specs.Laws.{interleaved_along}

-- the list with another event at this place, counted from 1
abbrev pub changed : ℕ → Event → List Event → List Event
changed n e [] = []
changed zero e (x ∷ xs) = x ∷ xs
changed (suc zero) e (x ∷ xs) = e ∷ xs
changed (suc (suc n)) e (x ∷ xs) = x ∷ changed (suc n) e xs

-- the first events of a list, so many of them, and those behind
abbrev pub first : ℕ → List Event → List Event
first n [] = []
first zero (x ∷ xs) = []
first (suc n) (x ∷ xs) = x ∷ first n xs

abbrev pub behind : ℕ → List Event → List Event
behind n [] = []
behind zero (x ∷ xs) = x ∷ xs
behind (suc n) (x ∷ xs) = behind n xs

-- the place, counted from 1, of the first event that isn't allowed; none where all are
abbrev pub refused_from : ℕ → Option InterleavedState → List Event → Option ℕ
refused_from n None es = Some n
refused_from n (Some f) [] = None
refused_from n (Some f) (e ∷ es) = refused_from (n + 1) (interleaved_step f e) es

abbrev pub refused_at : List Event → Option ℕ
refused_at es = refused_from 0 (Some (first_interleaved 9011)) es

-- a part of the state behind a list, where all of it is allowed
abbrev pub part : {X : Type 0} → (InterleavedState → X) → List Event → Option X
part pick es = option_map pick (interleaved_along 9011 es)

-- the device texts gpib0,5, where the digit is 53, and gpib0
abbrev pub device : ℕ → List ℕ
device digit = 103 ∷ 112 ∷ 105 ∷ 98 ∷ 48 ∷ 44 ∷ digit ∷ []

abbrev pub interface : List ℕ
interface = 103 ∷ 112 ∷ 105 ∷ 98 ∷ 48 ∷ []

-- a create_link of the device with this digit, with a lock or without
abbrev pub create : Bool → List ℕ → Call
create lock text = call.CreateLink (pos 1) lock 0 text

-- the reply of one that made this link: the port of the abort channel, and at most 262,144 bytes a write
abbrev pub made : ℕ → Reply
made lid = reply.CreateLink code.Ok lid 9011 262144

-- an answer to which nothing came from outside: the bus didn't fail, there was no dial, and no level is told
abbrev pub answered : ℕ → ℕ → Reply → Event
answered conn now told = Answer conn now false None false told

-- a device_write on a link, with these flags and 1,000 milliseconds for its turn
abbrev pub write : ℕ → ℕ → List ℕ → Call
write lid flags bytes = call.Write lid 1000 0 flags bytes

-- a connection asks at this moment for a link, and is answered at once
abbrev pub linked : ℕ → List ℕ → ℕ → ℕ → List Event → List Event
linked conn text lid now more = Arrive conn (create false text) now ∷ answered conn now (made lid) ∷ more

-- UNL, MTA 0 and MLA of this address, at most 15: the gateway talks, the device listens
abbrev pub addressed : ℕ → List Transfer → List Transfer
addressed p more = Cmd 0x3F ∷ Cmd 0x40 ∷ Cmd (0x20 + p) ∷ more

-- the same, and then one byte without END, or with it
abbrev pub puts : ℕ → ℕ → Bool → List Transfer
puts p byte end = addressed p (Put byte end ∷ [])
