-- A run is refused only where the rack has no spare for one of the head's `plug` commands.
use Rattle.std.proofs.Common.{◌≡◌, ◌≢◌, ◌≤◌, ◌+◌, ℕ, false, List, [], ◌∷◌, ◌++◌, length, Some, None, inl, inr, refl, sym, ap, ◌∙◌, subst, arith}
use Rattle.std.specs.Prelude.{codes}
use Rattle.std.specs.List.{slice_get}
use Rattle.std.specs.Str.{bytes_eq}
use Rattle.std.proofs.lemmas.Option.{none-some, same_Some, slice_get_past}
use Rattle.vx_calls.specs.declared.calls.Role.{Role}
use Rattle.vx_calls.specs.declared.calls.Role.TheVariants as role
use Rattle.vx_script.specs.declared.Cause.{Cause}
use Rattle.vx_script.specs.declared.Cause.TheVariants as cause
use Rattle.vx_script.specs.Command.{Command, Up, Plug}
use Rattle.vx_488.specs.declared.transfers.Addr.{Addr}
use Rattle.vx_flow.specs.InterleavedState.{InterleavedState}
use Rattle.vx_setup.specs.Script.{Step}
use Rattle.vx_setup.specs.Rack.{SpareShown, spare_at}
use Rattle.vx_setup.specs.Refusing.{address}
use Rattle.vx_gen.specs.Drawing.{draw}
use Rattle.vx_gen.specs.Generating.{head, on_core, link_made, requests_enabled}
use Rattle.vx_gen.proofs.Laws.Spelled.{IsSpelled, link-spelled, requests-spelled}
use Rattle.vx_run.specs.Item.{Item}
use Rattle.vx_player.specs.Stage.{Stage, beginning, refusal}
use Rattle.vx_player.specs.Play.{PlayerTakes, Plays}
use Rattle.vx_player.specs.Generated.{IsGenerated, AreGenerated, IsDriven}
use Rattle.vx_player.proofs.Plugging.{IsPlugged, IsFree, plug-refused, plug-leads}
use Rattle.vx_player.proofs.Served.{IsCore, IsServed, Goes, goes-at}
use Rattle.vx_player.proofs.Drawn.{goes-drawn}
use Rattle.vx_player.proofs.Coming.{HasComeUp, GetsChannel, up, up_refused, up_0, up_1, up_2, up_3, up_4, up_5, none-up, up-allowed, up-leads, up-served, up-rests}
use Rattle.vx_player.proofs.HeadCalls.{Passes, AtCall, AtDial, call-passes, channel-passes, dial-passes}

-- The step of a place is one of the head's `plug` commands, and the rack has no spare of its name.
pub record LacksSpare (rack : List SpareShown) (place : ℕ) (command : Command) (why : Cause) : Type 0 where
  pub p : ℕ
  pub name : List ℕ
  pub next : slice_get head place ≡ Some (Plug p None name)
  pub command_is : command ≡ Plug p None name
  pub lacks : spare_at rack name ≡ None
  pub spare : why ≡ cause.Spare

-- the step of a place is refused at a stage only for that
abbrev pub HaltsOnly : List SpareShown → (seed place : ℕ) → Stage → Type 0
HaltsOnly rack seed place s = (command : Command) (why : Cause) → IsGenerated seed place s command → refusal s command ≡ Some why → LacksSpare rack place command why

-- ---- which step is generated

-- in the head, the head's
head-is : (seed place : ℕ) (s : Stage) (command here : Command) → slice_get head place ≡ Some here → IsGenerated seed place s command → command ≡ here
head-is seed place s command here at (inl is) = same_Some command here (sym is ∙ at)
head-is seed place s command here at (inr (inl (k, behind, is))) = absurd (none-some here (sym (slice_get_past head place (omega arith)) ∙ at))
head-is seed place s command here at (inr (inr (k, behind, is))) = absurd (none-some here (sym (slice_get_past head place (omega arith)) ∙ at))

-- behind it, a moment or a drawn one, which isn't refused
behind-goes : (seed place : ℕ) (s : Stage) (command : Command) → length head ≤ place → IsServed s → IsGenerated seed place s command → Goes s command
behind-goes seed place s command past served (inl is) = absurd (none-some command (sym (slice_get_past head place past) ∙ is))
behind-goes seed place s command past served (inr (inl (k, at, is))) = subst (Goes s) (sym is) (goes-at s (k + 1) served)
behind-goes seed place s command past served (inr (inr (k, at, is))) = subst (Goes s) (sym is) (goes-drawn s (k + 1) (draw seed (k + 1)) served)

-- ---- the steps from a place on

-- no step behind the head is refused
behind : (rack : List SpareShown) (seed place : ℕ) (s t : Stage) (steps : List Step) (items : List Item) (played : Plays s steps items t) → length head ≤ place → IsServed s
    → AreGenerated seed place s steps items t played → HaltsOnly rack seed (place + length steps) t
behind rack seed place s t [] [] played past served made = λ command why is refused.
    let here : place + length {A = Step} [] ≡ place = omega arith in
    let goes = behind-goes seed place t command past (subst IsServed (sym played) served) (subst (λ n. IsGenerated seed n t command) here is) in
    absurd (none-some why (sym goes.allowed ∙ refused))
behind rack seed place s t (step ∷ steps) (item ∷ items) (same, next, takes, rest) past served (line, is, more) =
    let count : place + 1 + length steps ≡ place + length (step ∷ steps) = omega arith in
    subst (λ n. HaltsOnly rack seed n t) count
    (behind rack seed (place + 1) next t steps items rest (omega arith) ((behind-goes seed place s step.command past served is).leads item next same takes) more)
behind rack seed place s t [] (item ∷ items) played past served made = absurd played
behind rack seed place s t (step ∷ steps) [] played past served made = absurd played

-- what holds of the steps from a place on
abbrev HaltsFrom : List SpareShown → (seed place : ℕ) → (Stage → Type 0) → Type 0
HaltsFrom rack seed place P =
    (s t : Stage) (steps : List Step) (items : List Item) (played : Plays s steps items t) → P s → AreGenerated seed place s steps items t played
    → HaltsOnly rack seed (place + length steps) t

-- a step of the head, and those behind it
head-step : (rack : List SpareShown) (seed place : ℕ) (P Q : Stage → Type 0) (here : Command) → slice_get head place ≡ Some here → ((s : Stage) → P s → HaltsOnly rack seed place s)
    → ((s t : Stage) (item : Item) → P s → item.command ≡ here → PlayerTakes s item t → Q t) → HaltsFrom rack seed (place + 1) Q → HaltsFrom rack seed place P
head-step rack seed place P Q here at halts leads later s t [] [] played p made =
    let count : place ≡ place + length {A = Step} [] = omega arith in
    subst (λ n. HaltsOnly rack seed n t) count (halts t (subst P (sym played) p))
head-step rack seed place P Q here at halts leads later s t (step ∷ steps) (item ∷ items) (same, next, takes, rest) p (line, is, more) =
    let count : place + 1 + length steps ≡ place + length (step ∷ steps) = omega arith in
    subst (λ n. HaltsOnly rack seed n t) count
    (later next t steps items rest (leads s next item p (same ∙ head-is seed place s step.command here at is) takes) more)
head-step rack seed place P Q here at halts leads later s t [] (item ∷ items) played p made = absurd played
head-step rack seed place P Q here at halts leads later s t (step ∷ steps) [] played p made = absurd played

-- one that isn't refused
passes-step : (rack : List SpareShown) (seed place : ℕ) (P Q : Stage → Type 0) (here : Command) → slice_get head place ≡ Some here → Passes P here Q
    → HaltsFrom rack seed (place + 1) Q → HaltsFrom rack seed place P
passes-step rack seed place P Q here at passes later =
    head-step rack seed place P Q here at
    (λ s p command why is refused.
    absurd (none-some why (sym (ap (refusal s) (head-is seed place s command here at is) ∙ passes.allowed s p) ∙ refused)))
    passes.leads later

-- a connection that comes up
up-passes : (f : InterleavedState) (conn : ℕ) (r : Role) → up_refused f conn r ≡ None → Passes (HasComeUp f) (Up conn r) (HasComeUp (up f r))
up-passes f conn r free = record { allowed = λ s came. up-allowed f s conn r came free; leads = λ s t item came is takes. up-leads f s t item conn r came is takes }

-- a `plug` command
plug-step : (rack : List SpareShown) (seed place : ℕ) (places : List Addr) (IsLeft Later : List ℕ → Type 0) (p : ℕ) (name : List ℕ) → slice_get head place ≡ Some (Plug p None name)
    → IsFree places p → IsLeft name → ((other : List ℕ) → Later other → IsLeft other × (bytes_eq name other ≡ false))
    → HaltsFrom rack seed (place + 1) (IsPlugged rack (places ++ address p None ∷ []) Later) → HaltsFrom rack seed place (IsPlugged rack places IsLeft)
plug-step rack seed place places IsLeft Later p name at free left fewer later =
    head-step rack seed place (IsPlugged rack places IsLeft) (IsPlugged rack (places ++ address p None ∷ []) Later) (Plug p None name) at halts
    (λ s t item plugged is takes. plug-leads rack places IsLeft Later s t item p name plugged is takes fewer) later
  where
    halts : (s : Stage) → IsPlugged rack places IsLeft s → HaltsOnly rack seed place s
    halts s plugged command why is refused =
        let here = head-is seed place s command (Plug p None name) at is in
        let found = plug-refused rack places IsLeft s p name why plugged free left (subst (λ c. refusal s c ≡ Some why) here refused) in
        record { p = p; name = name; next = at; command_is = here; lacks = found.0; spare = found.1 }

-- a link without lock
link-passes : (most conn : ℕ) (device : List ℕ) → IsCore conn → IsSpelled role.Core (link_made device)
    → Passes (AtCall most GetsChannel) (on_core conn 1 (link_made device)) (AtCall (most + 1) GetsChannel)
link-passes most conn device is_core spelled =
    call-passes most GetsChannel conn 1 (link_made device) is_core (record { spelled = spelled; asks = λ xid. refl }) (record { no_bus = refl; no_lock = refl }) refl

-- the service requests of a link
requests-passes : (most : ℕ) (Free : ℕ → Type 0) (conn : ℕ) → IsCore conn → conn ≤ 4 → Passes (AtCall most Free) (on_core conn 3 (requests_enabled conn)) (AtCall (most + 1) Free)
requests-passes most Free conn is_core small =
    call-passes most Free conn 3 (requests_enabled conn) is_core (record { spelled = requests-spelled conn small; asks = λ xid. refl }) (record { no_bus = refl; no_lock = refl }) refl

-- ---- the head, from its end to its beginning

module _ (rack : List SpareShown) (seed : ℕ) where
  -- the names that are left behind each `plug`
  abbrev Left_0 : List ℕ → Type 0
  Left_0 name = Unit {0}

  abbrev Left_1 : List ℕ → Type 0
  Left_1 name = bytes_eq (codes "echo") name ≡ false

  abbrev Left_2 : List ℕ → Type 0
  Left_2 name = Left_1 name × (bytes_eq (codes "slow") name ≡ false)

  -- the connections that get a channel behind each dial
  abbrev Free_1 : ℕ → Type 0
  Free_1 n = GetsChannel n × (1 ≢ n)

  abbrev Free_2 : ℕ → Type 0
  Free_2 n = Free_1 n × (4 ≢ n)

  four_free : Free_1 4
  four_free = (inr refl, λ e. absurd (omega arith))

  from_18 : HaltsFrom rack seed 18 (AtCall 9 Free_2)
  from_18 = λ s t steps items played at made. behind rack seed 18 s t steps items played (omega arith) at.served made

  from_15 : HaltsFrom rack seed 15 (AtCall 7 Free_1)
  from_15 =
      passes-step rack seed 15 (AtCall 7 Free_1) (AtDial 7 Free_1 4) _ refl (channel-passes 7 Free_1 4 2 (inr (inr (inr refl))) (omega arith) four_free)
      (passes-step rack seed 16 (AtDial 7 Free_1 4) (AtCall 8 Free_2) _ refl (dial-passes 7 Free_1 4 (inr (inr (inr refl))))
      (passes-step rack seed 17 (AtCall 8 Free_2) (AtCall 9 Free_2) _ refl (requests-passes 8 Free_2 4 (inr (inr (inr refl))) (omega arith)) from_18))

  from_12 : HaltsFrom rack seed 12 (AtCall 5 GetsChannel)
  from_12 =
      passes-step rack seed 12 (AtCall 5 GetsChannel) (AtDial 5 GetsChannel 1) _ refl (channel-passes 5 GetsChannel 1 2 (inl refl) (omega arith) (inl refl))
      (passes-step rack seed 13 (AtDial 5 GetsChannel 1) (AtCall 6 Free_1) _ refl (dial-passes 5 GetsChannel 1 (inl refl))
      (passes-step rack seed 14 (AtCall 6 Free_1) (AtCall 7 Free_1) _ refl (requests-passes 6 Free_1 1 (inl refl) (omega arith)) from_15))

  from_8 : HaltsFrom rack seed 8 (AtCall 1 GetsChannel)
  from_8 =
      passes-step rack seed 8 (AtCall 1 GetsChannel) (AtCall 2 GetsChannel) _ refl (link-passes 1 1 (codes "gpib0,5") (inl refl) (link-spelled (codes "gpib0,5") refl (omega arith)))
      (passes-step rack seed 9 (AtCall 2 GetsChannel) (AtCall 3 GetsChannel) _ refl (link-passes 2 2 (codes "gpib0,6") (inr (inl refl)) (link-spelled (codes "gpib0,6") refl (omega arith)))
      (passes-step rack seed 10 (AtCall 3 GetsChannel) (AtCall 4 GetsChannel) _ refl (link-passes 3 3 (codes "gpib0,6") (inr (inr (inl refl))) (link-spelled (codes "gpib0,6") refl (omega arith)))
      (passes-step rack seed 11 (AtCall 4 GetsChannel) (AtCall 5 GetsChannel) _ refl (link-passes 4 4 (codes "gpib0,7") (inr (inr (inr refl))) (link-spelled (codes "gpib0,7") refl (omega arith))) from_12)))

  from_3 : HaltsFrom rack seed 3 (HasComeUp up_0)
  from_3 =
      passes-step rack seed 3 (HasComeUp up_0) (HasComeUp up_1) _ refl (up-passes up_0 1 role.Core refl)
      (passes-step rack seed 4 (HasComeUp up_1) (HasComeUp up_2) _ refl (up-passes up_1 2 role.Core refl)
      (passes-step rack seed 5 (HasComeUp up_2) (HasComeUp up_3) _ refl (up-passes up_2 3 role.Core refl)
      (passes-step rack seed 6 (HasComeUp up_3) (HasComeUp up_4) _ refl (up-passes up_3 4 role.Core refl)
      (passes-step rack seed 7 (HasComeUp up_4) (HasComeUp up_5) _ refl (up-passes up_4 5 role.Abort refl)
      (λ s t steps items played came made. from_8 s t steps items played (record { served = up-served s came; rests = up-rests s came }) made)))))

  from_0 : HaltsFrom rack seed 0 (IsPlugged rack [] Left_0)
  from_0 =
      plug-step rack seed 0 [] Left_0 Left_1 5 (codes "echo") refl (record { other = refl; free = refl; few = omega arith }) tt (λ other left. (tt, left))
      (plug-step rack seed 1 (address 5 None ∷ []) Left_1 Left_2 6 (codes "slow") refl (record { other = refl; free = refl; few = omega arith }) refl (λ other left. left)
      (plug-step rack seed 2 (address 5 None ∷ address 6 None ∷ []) Left_2 (λ name. ⊥) 7 (codes "asker") refl (record { other = refl; free = refl; few = omega arith })
      (refl, refl) (λ other none. absurd none)
      (λ s t steps items played plugged made. from_3 s t steps items played (none-up s plugged.interleaved plugged.streams) made)))

-- Behind so many steps of a run the next one is refused only where the rack has no spare for it.
pub driven-halts : (seed : ℕ) (rack : List SpareShown) (place : ℕ) (items : List Item) (end : Stage) → IsDriven seed rack place items end → HaltsOnly rack seed place end
driven-halts seed rack place items end d =
    let count : 0 + length d.steps ≡ place = omega (arith, d.number) in
    subst (λ n. HaltsOnly rack seed n end) count
    (from_0 rack seed (beginning rack) end d.steps items d.driven
    (record { interleaved = refl; streams = λ conn. refl; bus = record { wire = refl; at = refl }; spares = λ name left. refl }) d.generated)
