-- How many buses a fleet serves: where calls go by that, and what isn't done on the others.
use Rattle.std.proofs.Common.{◌≡◌, ◌≤◌, ◌<◌, ◌-◌, ◌+◌, ◌/◌, ◌%◌, ◌==◌, ◌&&◌, ℕ, Bool, true, false, cond, List, [], ◌∷◌, ◌++◌, length, drop, length-append, length-drop, Option, None, Some, refl, sym, ap, ◌∙◌, subst, arith}
use Rattle.std.specs.List.{All}
use Rattle.std.specs.Prelude.{nat_le, unwrap_or, codes}
use Rattle.std.specs.Str.{str_eq_ignore_ascii_case}
use Rattle.std.proofs.lemmas.Bool.{lt-ltb, le-ltb, leb-true, cond-true, cond-false, ne_eqb}
use Rattle.std.proofs.lemmas.List.Concat.{flat_map-cons}
use Rattle.std.proofs.lemmas.List.Elements.{All-head, All-tail}
use Rattle.std.proofs.lemmas.Option.{same_Some}
use Rattle.vx_calls.specs.declared.calls.Role.{Role}
use Rattle.vx_calls.specs.declared.codes.ErrorCode.TheVariants as code
use Rattle.vx_calls.specs.declared.limits.TheConstants.{DEVICE_MAX, RECORD_MAX}
use Rattle.vx_calls.specs.Call.{Call}
use Rattle.vx_calls.specs.Call as call
use Rattle.vx_calls.specs.Reply as reply
use Rattle.vx_488.specs.declared.bus.Bus.{Ghosts}
use Rattle.vx_exchange.specs.Meaning as one
use Rattle.vx_rules.specs.Calls.{link_named}
use Rattle.vx_desks.specs.declared.routes.counts.Count.{Count}
use Rattle.vx_desks.specs.declared.routes.counts.Count.TheVariants as counts
use Rattle.vx_desks.specs.Four.{Four}
use Rattle.vx_desks.specs.Counts.{count_number, serves_bus}
use Rattle.vx_desks.specs.Naming.{name_of, bus_named, bus_of}
use Rattle.vx_desks.specs.Routing.{Refused, Goes, fleet_place_of, fleet_with_link, on_bus, text_there, by_link, route_of}
use Rattle.vx_desks.specs.Meant.{Aborts, by_way}
use Rattle.vx_desks.specs.Origins.{Origins, origins}
use Rattle.vx_desks.specs.FleetServing.{Item, FleetServes, placed_on}
use Rattle.vx_desks.specs.CountLaws.{FourLaw, UnservedTextLaw, UnservedLaw, four_place_of, four_by_link, four_route_of}

-- ---- the number

-- a fleet serves bus 0
pub some-served : (count : Count) → 0 < count_number count
some-served counts.One = omega arith
some-served counts.Two = omega arith
some-served counts.Three = omega arith
some-served counts.Four = omega arith

-- and none above bus 3
pub most-served : (count : Count) (bus : ℕ) → bus < count_number count → bus ≤ 3
most-served counts.One bus h = omega arith
most-served counts.Two bus h = omega arith
most-served counts.Three bus h = omega arith
most-served counts.Four bus h = omega arith

-- a device text on its bus is no longer than a record, where it wasn't before
pub text-short : (text there : List ℕ) (bus : ℕ) → (bus, there) ≡ text_there text → length text ≤ RECORD_MAX → length there ≤ RECORD_MAX
text-short text there bus is short = subst (λ (p : ℕ × List ℕ). length p.1 ≤ RECORD_MAX) (sym is) (by (bus_of text)) where
  by : (o : Option ℕ) → length (on_bus text o).1 ≤ RECORD_MAX
  by None = short
  by (Some b) = omega (arith, length-append (codes "gpib0") (drop 5 text), length-drop 5 text)

-- ---- four buses

-- the digit of a bus's name
digit-within : (word low high : Bool) (digit bus : ℕ) → nat_le digit 51 ≡ high → cond (word && low && high) (Some (digit - 48)) None ≡ Some bus → bus < 4
digit-within true true true digit bus is h =
    let most = leb-true digit 51 is in
    let same = same_Some (digit - 48) bus h in
    omega arith
digit-within true true false digit bus is h = absurd (cc)
digit-within true false high digit bus is h = absurd (cc)
digit-within false low high digit bus is h = absurd (cc)

-- a name is that of one of four
name-within : (name : List ℕ) (bus : ℕ) → bus_named name ≡ Some bus → bus < 4
name-within (g ∷ p ∷ i ∷ b ∷ digit ∷ []) bus h = digit-within (str_eq_ignore_ascii_case (g ∷ p ∷ i ∷ b ∷ []) (codes "gpib")) (nat_le 48 digit) (nat_le digit 51) digit bus refl h
name-within _ bus h = absurd (cc)

-- so is what a device text names
text-named : (text : List ℕ) (bus : ℕ) → bus_of text ≡ Some bus → bus < 4
text-named text bus = by (nat_le (length text) DEVICE_MAX) where
  by : (b : Bool) → cond b (bus_named (name_of text)) None ≡ Some bus → bus < 4
  by true h = name-within (name_of text) bus h
  by false h = absurd (cc)

-- and the bus that it goes to
text-within : (text : List ℕ) → (text_there text).0 < 4
text-within text = by (bus_of text) refl where
  by : (o : Option ℕ) → bus_of text ≡ o → (on_bus text o).0 < 4
  by None is = omega arith
  by (Some bus) is = text-named text bus is

-- the bus of a link
place-within : (lid : ℕ) → (four_place_of lid).0 < 4
place-within lid = by (lid == 0) where
  by : (b : Bool) → (unwrap_or {T = ℕ × ℕ} (cond b None (Some ((lid - 1) % 4, (lid - 1) / 4 + 1))) (0, 0)).0 < 4
  by true = omega arith
  by false = omega arith

-- so a link's place stays
four-place : (lid : ℕ) → fleet_place_of counts.Four lid ≡ four_place_of lid
four-place lid = cond-true (serves_bus counts.Four (four_place_of lid).0) (four_place_of lid) (0, 0) (lt-ltb (four_place_of lid).0 4 (place-within lid))

-- and so does the way of a call
four-link : (asked : Call) (o : Option ℕ) → by_link counts.Four asked o ≡ four_by_link asked o
four-link asked None = refl
four-link asked (Some lid) = ap (λ (p : ℕ × ℕ). Goes p.0 (fleet_with_link asked p.1)) (four-place lid)

four-route : (asked : Call) → route_of counts.Four asked ≡ four_route_of asked
four-route (call.CreateIntr host port prog vers family) = refl
four-route call.DestroyIntr = refl
four-route (call.CreateLink client lock lock_timeout device) =
    cond-true (serves_bus counts.Four (text_there device).0) (Goes (text_there device).0 (call.CreateLink client lock lock_timeout (text_there device).1)) (Refused (reply.CreateLink code.NotAccessible 0 0 0))
    (lt-ltb (text_there device).0 4 (text-within device))
four-route asked = four-link asked (link_named asked)

pub four-law : FourLaw
four-law one.Junk = refl
four-law (one.Answered message) = refl
four-law (one.Asks xid asked) = ap (by_way xid) (four-route asked)
four-law (one.Aborts xid lid) = ap (λ (p : ℕ × ℕ). Aborts p.0 xid p.1) (four-place lid)

-- ---- fewer buses

pub unserved-text : UnservedTextLaw
unserved-text count bus xid client lock lock_timeout device above is =
    let named : (text_there device).0 ≡ bus = ap (λ (o : Option ℕ). (on_bus device o).0) is in
    ap (by_way xid) (cond-false (serves_bus count (text_there device).0) (Goes (text_there device).0 (call.CreateLink client lock lock_timeout (text_there device).1)) (Refused (reply.CreateLink code.NotAccessible 0 0 0))
    (le-ltb (text_there device).0 (count_number count) (omega arith)))

-- what messages of a fleet added to the history of another bus
unserved-on : {B : Type 0} (g : Origins B) (count : Count) (ns conns : Four ℕ) (r : Role) (bus : ℕ) → count_number count ≤ bus → (items : List Item) → All (FleetServes count g ns conns r) items → placed_on bus items ≡ []
unserved-on g count ns conns r bus above [] all = refl
unserved-on g count ns conns r bus above (i ∷ items) all =
    let within = (All-head (FleetServes count g ns conns r) i items all).within in
    let apart : i.bus ≡ bus → ⊥ = λ e. absurd (omega arith) in
    let none = cond-false (i.bus == bus) i.placed [] (ne_eqb i.bus bus apart) in
    flat_map-cons (λ (k : Item). cond (k.bus == bus) k.placed []) i items
    ∙ ap (λ xs. xs ++ placed_on bus items) none
    ∙ unserved-on g count ns conns r bus above items (All-tail (FleetServes count g ns conns r) i items all)

pub unserved : {B : Type 0} (by_bus : Ghosts B) → UnservedLaw by_bus
unserved by_bus firsts count ns conns r items bus above all = unserved-on (origins by_bus firsts) count ns conns r bus above items all
