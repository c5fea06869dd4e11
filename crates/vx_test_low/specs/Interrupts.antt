-- A dial that makes an interrupt channel, and the interrupts that rises of SRQ queue on it.
use Rattle.std.specs.Prelude.{◌≡◌, ℕ, Bool, true, false, List, [], ◌∷◌, ◌++◌, map, Option, Some, None}
use Rattle.vx_calls.specs.declared.calls.Role.TheVariants as role
use Rattle.vx_calls.specs.declared.codes.ErrorCode.{ErrorCode}
use Rattle.vx_calls.specs.declared.codes.ErrorCode.TheVariants as code
use Rattle.vx_calls.specs.Call.{Call}
use Rattle.vx_calls.specs.Call as call
use Rattle.vx_calls.specs.Reply as reply
use Rattle.vx_rules.specs.SrqState.{Given, Front, Empty, Gone, Enable, channel_at}
use Rattle.vx_flow.specs.Event.{Event, Up, Down, Arrive, Answer, Sample, Take, Dial}
use Rattle.vx_test_low.specs.Lists.{changed, first, refused_at, part, device, linked}

-- create_intr_chan to port 1025, of this family (0 is TCP), for calls of program 0x607B1, version 1
abbrev pub intr : ℕ → Call
intr family = call.CreateIntr 0x7F000001 1025 0x607B1 1 family

-- an answer of connection 1 behind a dial that came up or not, or without one
abbrev pub settled : ℕ → Option Bool → ErrorCode → Event
settled now dialed error = Answer 1 now false dialed false (reply.Error error)

-- one dial, which comes up
abbrev pub dials : List Event
dials =
    -- 1 to 4
    Up 1 role.Core ∷ Arrive 1 (intr 0) 10 ∷ Dial 1 11 ∷ settled 12 (Some true) code.Ok ∷ []

-- two dials: the first fails
abbrev pub dials_again : List Event
dials_again =
    -- 1 to 4
    Up 1 role.Core ∷ Arrive 1 (intr 0) 10 ∷ Dial 1 11 ∷ settled 12 (Some false) code.NoChannel
    -- 5 to 7
    ∷ Arrive 1 (intr 0) 20 ∷ Dial 1 21 ∷ settled 22 (Some true) code.Ok ∷ []

pub record EachAnswerHasItsDial : Type 0 where
  pub allowed : refused_at dials ≡ None
  pub asked : part (λ f. f.dialed) (first 3 dials) ≡ Some (1 ∷ [])
  pub told : part (λ f. f.dialed) dials ≡ Some []
  pub channel : part (λ f. channel_at f.state.tables.srq_state 1) dials
      ≡ Some (Some (record { number = 1; program = 0x607B1; version = 1; next_xid = 1; outbox = [] }))
  -- no answer without its dial, told or untold
  pub never_dialed : refused_at (changed 3 (Sample 11 false) dials) ≡ Some 4
  pub untold : refused_at (changed 4 (settled 12 None code.Ok) dials) ≡ Some 4
  -- a dial that failed is error 6
  pub failed : refused_at (changed 4 (settled 12 (Some false) code.NoChannel) dials) ≡ None
  pub failed_well : refused_at (changed 4 (settled 12 (Some false) code.Ok) dials) ≡ Some 4
  -- no dial back in time, for another call, or where a check is against it
  pub before : refused_at (changed 3 (Dial 1 9) dials) ≡ Some 3
  pub other_call : refused_at (changed 2 (Arrive 1 call.DestroyIntr 10) dials) ≡ Some 3
  pub other_family : refused_at (changed 2 (Arrive 1 (intr 1) 10) dials) ≡ Some 3
  -- the next call needs a dial of its own
  pub again : refused_at dials_again ≡ None
  pub only_first : refused_at (changed 6 (Sample 21 false) dials_again) ≡ Some 7

-- the handle of link 1
abbrev pub handle : List ℕ
handle = 7 ∷ 9 ∷ []

-- an interrupt with this handle, and one of link 1
abbrev pub interrupt_of : ℕ → List ℕ → Given
interrupt_of xid given = Front (record { xid = xid; program = 0x607B1; version = 1; handle = given })

abbrev pub interrupt : ℕ → Given
interrupt xid = interrupt_of xid handle

-- connection 1 has a channel, and its link is enabled; SRQ rises twice, and each interrupt is taken
abbrev pub rises : List Event
rises =
    -- 1 to 5
    Up 1 role.Core ∷ linked 1 (device 53) 1 10
    (Arrive 1 (call.EnableSrq 1 true handle) 20 ∷ settled 20 None code.Ok
    -- 6 to 8
    ∷ Arrive 1 (intr 0) 30 ∷ Dial 1 30 ∷ settled 31 (Some true) code.Ok
    -- 9 to 11
    ∷ Sample 40 true ∷ Take 1 1 (interrupt 1) ∷ Sample 41 true
    -- 12 to 14
    ∷ Sample 42 false ∷ Sample 43 true ∷ Take 1 1 (interrupt 2) ∷ [])

-- then the connection goes, and its channel with it
abbrev pub rises_gone : List Event
rises_gone = rises ++ Down 1 ∷ []

-- the handle of link 2
abbrev pub handle_2 : List ℕ
handle_2 = 8 ∷ []

-- connection 1 has two links; the one that was made later is enabled first, and SRQ rises once
abbrev pub two_links : List Event
two_links =
    -- 1 to 5
    Up 1 role.Core ∷ linked 1 (device 53) 1 10 (linked 1 (device 55) 2 11
    -- 6 to 9
    (Arrive 1 (call.EnableSrq 2 true handle_2) 20 ∷ settled 20 None code.Ok
    ∷ Arrive 1 (call.EnableSrq 1 true handle) 21 ∷ settled 21 None code.Ok
    -- 10 to 12
    ∷ Arrive 1 (intr 0) 30 ∷ Dial 1 30 ∷ settled 31 (Some true) code.Ok
    -- 13 to 15
    ∷ Sample 40 true ∷ Take 1 1 (interrupt_of 1 handle) ∷ Take 1 1 (interrupt_of 2 handle_2) ∷ []))

pub record EachRiseQueuesOne : Type 0 where
  pub allowed : refused_at rises ≡ None
  pub channel : part (λ f. channel_at f.state.tables.srq_state 1) rises
      ≡ Some (Some (record { number = 1; program = 0x607B1; version = 1; next_xid = 3; outbox = [] }))
  -- xids are 1, 2 and so on
  pub xid_0 : refused_at (changed 10 (Take 1 1 (interrupt 0)) rises) ≡ Some 10
  pub same_xid : refused_at (changed 14 (Take 1 1 (interrupt 1)) rises) ≡ Some 14
  -- a rise queues one interrupt, and a level that stays none
  pub taken_twice : refused_at (changed 11 (Take 1 1 (interrupt 2)) rises) ≡ Some 11
  pub steady : refused_at (changed 12 (Sample 42 true) rises) ≡ Some 14
  pub no_rise : refused_at (changed 9 (Sample 40 false) rises) ≡ Some 10
  -- a link that isn't enabled gets none
  pub disabled : refused_at (changed 4 (Arrive 1 (call.EnableSrq 1 false handle) 20) rises) ≡ Some 10
  -- a take of another channel gives nothing, so the first xid is still to come
  pub other_channel : refused_at (changed 10 (Take 1 2 Gone) rises) ≡ Some 14
  -- an outbox that has one isn't empty
  pub not_empty : refused_at (changed 10 (Take 1 1 Empty) rises) ≡ Some 10
  -- two links have one each, in order of the links' numbers
  pub both_links : refused_at two_links ≡ None
  pub in_order : part (λ f. map (λ (e : Enable). e.link) f.state.tables.srq_state.enables) two_links ≡ Some (1 ∷ 2 ∷ [])
  pub later_first : refused_at (changed 14 (Take 1 1 (interrupt_of 1 handle_2)) two_links) ≡ Some 14
  pub one_twice : refused_at (changed 15 (Take 1 1 (interrupt_of 2 handle)) two_links) ≡ Some 15
