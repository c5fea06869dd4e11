-- How a bus that another box drives changes by each step.
use Rattle.std.specs.Prelude.{◌≡◌, ℕ, ◌⊎◌, Bool, true, false, List, [], ◌∷◌, Option}
use Rattle.vx_488.specs.declared.transfers.Transfer.TheVariants.{Put, Got, Ifc}
use Rattle.vx_488.specs.Wire.{step}
use Rattle.vx_488.specs.Steps.{Step, Went, Held, Failed, Told, Cut, ask_for}
use Rattle.vx_488.specs.Bursts.{puts_steps, gets_steps}
use Rattle.vx_488.specs.declared.asks.Ask.{Ask}
use Rattle.vx_488.specs.declared.asks.Ask.TheVariants as ask
use Rattle.vx_488.specs.declared.asks.Move.{Move}
use Rattle.vx_488.specs.declared.asks.Move.TheVariants as answer
use Rattle.vx_488.specs.declared.bursts.Many.{Many}
use Rattle.vx_488.specs.declared.bursts.ManyGot.{ManyGot}
use Rattle.vx_upstream.specs.UpstreamState.{UpstreamState, IsHere, IsAway, comes_back, clears, after}
use Rattle.vx_upstream.specs.Sending.{LinkWords, Orders, Wrote, ReadMany, Looks, bit}
use Rattle.vx_upstream.specs.Bringing.{Tries}

-- ---- data bytes: one call is told as the steps of its burst

-- one call came to these steps: a device_write to those of a burst of puts, or a device_read to those of a burst of gets
abbrev pub Comes : {L : Type 0} → LinkWords L → List Step → UpstreamState L → UpstreamState L → Type 0
Comes w steps old new =
    ((bytes : List ℕ) × (end : Bool) × (m : Many) × Wrote w bytes end m old new × (steps ≡ puts_steps bytes end m))
    ⊎ ((room : ℕ) × (char : Option ℕ) × (bytes : List ℕ) × (m : ManyGot) × ReadMany w room char bytes m old new × (steps ≡ gets_steps bytes m.stop))

-- A step of a data byte is the next of those that are due, for which nothing is sent; or it is the first of a call that is made for
-- it, whose others are due from then on. A call is made of a bus that is here.
abbrev pub Tells : {L : Type 0} → LinkWords L → Step → UpstreamState L → UpstreamState L → Type 0
Tells w s old new =
    ((old.due ≡ s ∷ new.due) × (new.client ≡ old.client)) ⊎ ((old.due ≡ []) × IsHere old × Comes w (s ∷ new.due) old new)

-- an ask of a bus that is away, for which nothing is sent
abbrev pub Idles : {L : Type 0} → UpstreamState L → UpstreamState L → Type 0
Idles old new = (old.due ≡ []) × (new.due ≡ []) × IsAway old × (new.client ≡ old.client)

-- ---- all else: one call each, of which nothing is due

-- the device_docmd of an ask that moves no data byte, and what it came to: send command, REN control, ATN control, IFC control, bus
-- address (VXI-11.2); of a bus that is away nothing is sent
abbrev pub Tried : {L : Type 0} → LinkWords L → Ask → Move → UpstreamState L → UpstreamState L → Type 0
Tried w (ask.Cmd b) m old new = Orders w 0x020000 (b ∷ []) m old new
Tried w (ask.Ren on) m old new = Orders w 0x020003 (0 ∷ bit on ∷ []) m old new
Tried w (ask.Atn on) m old new = Orders w 0x020002 (0 ∷ bit on ∷ []) m old new
Tried w ask.Ifc m old new = Orders w 0x020010 [] m old new
Tried w (ask.Own a) m old new = Orders w 0x02000A (0 ∷ 0 ∷ 0 ∷ a ∷ []) m old new
Tried w _ m old new = ⊥

abbrev pub Alone : {L : Type 0} → UpstreamState L → UpstreamState L → Type 0 → Type 0
Alone old new P = (old.due ≡ []) × (new.due ≡ []) × P

-- ---- an interface clear

abbrev pub moved : Bool → Move
moved true = answer.Went
moved false = answer.Failed

-- Where control was passed on, and the bus is away, an interface clear is a try to bring the box's bus to what it leaves of the wire. Else
-- it is one call, or none, as any ask.
abbrev pub ClearsBus : {L : Type 0} → LinkWords L → Move → UpstreamState L → UpstreamState L → Type 0
ClearsBus w m old new =
    ((clears old ≡ false) × Orders w 0x020010 [] m old new × (new ≡ record old { client = new.client }))
    ⊎ ((clears old ≡ true) × ((done : Bool) × (m ≡ moved done) × Tries w (step old.kept.means.wire Ifc) done old new))

abbrev pub ByClear : {L : Type 0} → LinkWords L → Move → Step → UpstreamState L → UpstreamState L → Type 0
ByClear {L = L} w m s old new =
    (mid : UpstreamState L) × ClearsBus w m old mid × (new ≡ record mid { kept = after mid.kept s }) × (old.due ≡ [])

-- ---- a moment

-- a bus that is away is tried to be brought back, where it is in charge and its time has come
abbrev pub ComesBack : {L : Type 0} → LinkWords L → UpstreamState L → UpstreamState L → Type 0
ComesBack w old new =
    ((comes_back old ≡ true) × ((done : Bool) × Tries w old.kept.means.wire done old new)) ⊎ ((comes_back old ≡ false) × (new ≡ old))

-- then the lines of the box are looked at; of one that is away none is
abbrev pub LooksHere : {L : Type 0} → LinkWords L → ℕ → UpstreamState L → UpstreamState L → Type 0
LooksHere w now old new = (IsHere old × Looks w now old new) ⊎ (IsAway old × (new ≡ old))

abbrev pub Minds : {L : Type 0} → LinkWords L → ℕ → UpstreamState L → UpstreamState L → Type 0
Minds {L = L} w now old new = (mid : UpstreamState L) × ComesBack w (record old { moment = now }) mid × LooksHere w now mid new

-- ---- what is sent for a step, and what changes by it beside its meaning

-- it keeps what the step says, and neither the link at the box nor the moment nor a level changes
abbrev pub Calm : {L : Type 0} → UpstreamState L → Step → UpstreamState L → Type 0
Calm old s new = (new.kept ≡ after old.kept s) × (new.made ≡ old.made) × (new.moment ≡ old.moment) × (new.levels ≡ old.levels)

abbrev pub Asks : {L : Type 0} → LinkWords L → Step → UpstreamState L → UpstreamState L → Type 0
Asks w (Went (Put b end)) old new = Tells w (Went (Put b end)) old new
Asks w (Went (Got b end)) old new = Tells w (Went (Got b end)) old new
Asks w (Went made) old new = Alone old new (Tried w (ask_for made) answer.Went old new)
Asks w (Held (ask.Put b end)) old new = Tells w (Held (ask.Put b end)) old new
Asks w (Held ask.Get) old new = Tells w (Held ask.Get) old new
Asks w (Held asked) old new = Alone old new (Tried w asked answer.Held old new)
Asks w (Failed (ask.Put b end)) old new = Tells w (Failed (ask.Put b end)) old new ⊎ Idles old new
Asks w (Failed ask.Get) old new = Tells w (Failed ask.Get) old new ⊎ Idles old new
Asks w (Failed asked) old new = Alone old new (Tried w asked answer.Failed old new)
Asks w (Told now) old new = ⊥
Asks w Cut old new = (new.due ≡ old.due) × (new.client ≡ old.client)

abbrev pub Does : {L : Type 0} → LinkWords L → Step → UpstreamState L → UpstreamState L → Type 0
Does w (Told now) old new = (new.due ≡ old.due) × Minds w now old new
Does w (Went Ifc) old new = ByClear w answer.Went (Went Ifc) old new
Does w (Failed ask.Ifc) old new = ByClear w answer.Failed (Failed ask.Ifc) old new
Does w s old new = Calm old s new × Asks w s old new

-- the bus after a step: it means what the step says, its terms stay, and the box was asked for the step
abbrev pub Through : {L : Type 0} → LinkWords L → UpstreamState L → Step → UpstreamState L → Type 0
Through w old s new = (new.kept.means ≡ (after old.kept s).means) × (new.terms ≡ old.terms) × Does w s old new
