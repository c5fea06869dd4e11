-- To be believed.
-- How a box's bus is taken: the reach, the calls that bring it to rest, and why it can't be had.
use Rattle.std.specs.Prelude.{◌≡◌, ◌⊎◌, ℕ, true, List, [], ◌∷◌, Result, Ok, Err}
use Rattle.vx_io_traits.specs.declared.dials.DialOut.TheVariants.{Up, Failed}
use Rattle.vx_client.specs.State.{ClientState, new_client}
use Rattle.vx_client.specs.Calls.{create, command}
use Rattle.vx_client.specs.Meaning.{made_of, len_of}
use Rattle.vx_client.specs.declared.answers.LinkMade.{LinkMade}
use Rattle.vx_client.specs.declared.answers.ClientErr.{ClientErr}
use Rattle.vx_upstream.specs.UpstreamState.{UpstreamState, Terms, first_kept, opts_of}
use Rattle.vx_upstream.specs.Sending.{LinkWords, OneCall, Reaches}
use Rattle.vx_upstream.specs.declared.open.OpenErr.{OpenErr}
use Rattle.vx_upstream.specs.declared.open.OpenErr.TheVariants as cause

-- create_link of this name, with a lock, as the first call of a client over this link (VXI-11, create_link)
abbrev pub Links : {L : Type 0} → LinkWords L → L → List ℕ → ClientState L → Result LinkMade ClientErr → Type 0
Links w link name new r = OneCall w (new_client link) new (create true 0 name) 0 made_of r

-- a bus whose box was reached and made a link, and of which nothing else was asked
pub record IsLinked {L : Type 0} (w : LinkWords L) (link : L) (terms : Terms) (bus : UpstreamState L) : Type 0 where
  pub at_box : L
  pub reached : Reaches w terms.host terms.port Up link at_box
  pub called : Links w at_box terms.name bus.client (Ok bus.made)
  pub same : bus.terms ≡ terms
  pub kept : bus.kept ≡ first_kept
  pub due : bus.due ≡ []

-- a device_docmd on the bus's link at the box, and what it answered (VXI-11.2, device_docmd)
abbrev pub Asked : {L : Type 0} → LinkWords L → UpstreamState L → ℕ → List ℕ → ClientState L → ClientState L → Result ℕ ClientErr → Type 0
Asked w bus cmd bytes old new r = OneCall w old new (command bus.made.lid (opts_of bus 0) cmd bytes) 4 len_of r

-- it was answered with error 0
abbrev pub IsDone : (Result ℕ ClientErr → Type 0) → Type 0
IsDone Answered = (len : ℕ) × Answered (Ok len)

-- interface clear, remote enable off, and the box at address 0 (VXI-11.2: IFC control, REN control, bus address)
abbrev pub Clears : {L : Type 0} → LinkWords L → UpstreamState L → ClientState L → ClientState L → Result ℕ ClientErr → Type 0
Clears w bus old new r = Asked w bus 0x020010 [] old new r

abbrev pub SwitchesRemoteOff : {L : Type 0} → LinkWords L → UpstreamState L → ClientState L → ClientState L → Result ℕ ClientErr → Type 0
SwitchesRemoteOff w bus old new r = Asked w bus 0x020003 (0 ∷ 0 ∷ []) old new r

abbrev pub TakesAddress : {L : Type 0} → LinkWords L → UpstreamState L → ClientState L → ClientState L → Result ℕ ClientErr → Type 0
TakesAddress w bus old new r = Asked w bus 0x02000A (0 ∷ 0 ∷ 0 ∷ 0 ∷ []) old new r

-- these three, one after the other, each answered with error 0, from a bus's client on
pub record IsRested {L : Type 0} (w : LinkWords L) (bus : UpstreamState L) (last : ClientState L) : Type 0 where
  pub cleared : ClientState L
  pub unremote : ClientState L
  pub ifc : IsDone (Clears w bus bus.client cleared)
  pub ren_off : IsDone (SwitchesRemoteOff w bus cleared unremote)
  pub address : IsDone (TakesAddress w bus unremote last)

-- the bus of a box that is at rest: it was reached, the link was made, and the three were answered
pub record IsOpened {L : Type 0} (w : LinkWords L) (link : L) (terms : Terms) (bus : UpstreamState L) : Type 0 where
  pub linked : UpstreamState L
  pub link_made : IsLinked w link terms linked
  pub rested : IsRested w linked bus.client
  pub rest : bus ≡ record linked { client = bus.client }

-- which of the three wasn't answered with error 0, and what it was answered
abbrev pub IsUnrested : {L : Type 0} → LinkWords L → UpstreamState L → OpenErr → Type 0
IsUnrested w bus cause.NoMemory = ⊥
IsUnrested w bus cause.NoReach = ⊥
IsUnrested w bus (cause.NoLink e) = ⊥
IsUnrested {L = L} w bus (cause.NoClear e) = (new : ClientState L) × Clears w bus bus.client new (Err e)
IsUnrested {L = L} w bus (cause.NoRemoteOff e) =
    (cleared : ClientState L) × (new : ClientState L) × IsDone (Clears w bus bus.client cleared) × SwitchesRemoteOff w bus cleared new (Err e)
IsUnrested {L = L} w bus (cause.NoAddress e) =
    (cleared : ClientState L) × (unremote : ClientState L) × (new : ClientState L)
    × IsDone (Clears w bus bus.client cleared) × IsDone (SwitchesRemoteOff w bus cleared unremote) × TakesAddress w bus unremote new (Err e)

-- no link was made: there was no memory, or the box wasn't reached, or create_link was answered so
abbrev pub IsUnlinked : {L : Type 0} → LinkWords L → L → Terms → OpenErr → Type 0
IsUnlinked w link terms cause.NoMemory = Unit {0}
IsUnlinked {L = L} w link terms cause.NoReach = (new : L) × Reaches w terms.host terms.port Failed link new
IsUnlinked {L = L} w link terms (cause.NoLink e) =
    (at_box : L) × (new : ClientState L) × Reaches w terms.host terms.port Up link at_box × Links w at_box terms.name new (Err e)
IsUnlinked w link terms _ = ⊥

-- why a box's bus can't be had: no link was made, or one was made and then the box didn't come to rest
abbrev pub IsUnopened : {L : Type 0} → LinkWords L → L → Terms → OpenErr → Type 0
IsUnopened {L = L} w link terms e =
    IsUnlinked w link terms e ⊎ ((bus : UpstreamState L) × IsLinked w link terms bus × IsUnrested w bus e)
