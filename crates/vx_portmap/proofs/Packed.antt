-- Packets that are read and answered, one after another.
use Rattle.std.proofs.Common.{◌≡◌, ◌≤◌, ◌<◌, ◌+◌, ℕ, List, [], ◌∷◌, ◌++◌, map, length, take, Option, None, Some, refl, sym, ap, ◌∙◌, subst, append_assoc, append-nil, arith, length-append}
use Rattle.std.proofs.lemmas.List.{map-append, nil_from_length, length-map}
use Rattle.std.proofs.lemmas.List.Concat.{flat_map-append}
use Rattle.std.proofs.lemmas.List.Elements.{filter_map-append}
use Rattle.vx_io_traits.proofs.Laws.{rose_earlier}
use Rattle.vx_portmap.specs.declared.limits.TheConstants.{MESSAGE_MAX}
use Rattle.vx_portmap.specs.declared.table.Mapping.{Mapping}
use Rattle.vx_portmap.specs.declared.serving.PacketEnd.{PacketEnd}
use Rattle.vx_portmap.specs.declared.serving.PacketEnd.TheVariants as end
use Rattle.vx_portmap.specs.Answering.{reply}
use Rattle.vx_portmap.specs.Moves.{Moved, Took, all_given}
use Rattle.vx_portmap.specs.Boxes.{MapTakes, MapAdds}
use Rattle.vx_portmap.specs.Replies.{replies}
use Rattle.vx_portmap.specs.Packing.{BoxShown, BoxGoes, PacketsEnd, MapAnswers, IsEarly, IsCount, PacketsCounted, GivesReply, AnswersPacket, GivesAll, exchange, exchanges, ended_by}

-- ---- what the calls of a box did, one after another

-- no packet was read
pub takes-none : (room : ℕ) (a : Option (List (List ℕ))) → MapTakes room a a []
takes-none room None = tt
takes-none room (Some packets) = ([], refl, refl)

-- packets were read, and then more
pub takes-then : (room : ℕ) (a b c : Option (List (List ℕ))) (xs ys : List (List ℕ)) → MapTakes room a b xs → MapTakes room b c ys → MapTakes room a c (xs ++ ys)
takes-then room None b c xs ys first second = tt
takes-then room (Some x) None c xs ys first second = absurd first
takes-then room (Some x) (Some y) None xs ys first second = absurd second
takes-then room (Some x) (Some y) (Some z) xs ys first second = (
  first.0 ++ second.0,
  first.1 ∙ ap (λ l. first.0 ++ l) second.1 ∙ sym (append_assoc first.0 second.0 z),
  ap (λ l. l ++ ys) first.2 ∙ ap (λ l. map (take room) first.0 ++ l) second.2 ∙ sym (map-append (take room) first.0 second.0),
)

-- where none was read it doesn't matter how many bytes of one would have been
pub takes-any : (room other : ℕ) (a b : Option (List (List ℕ))) → MapTakes room a b [] → MapTakes other a b []
takes-any room other None b none = tt
takes-any room other (Some x) None none = absurd none
takes-any room other (Some x) (Some y) none =
    let is_nil : none.0 ≡ [] = nil_from_length none.0 (sym (length-map none.0 (take room)) ∙ sym (ap length none.2)) in
    ([], none.1 ∙ ap (λ l. l ++ y) is_nil, refl)

-- nothing came behind
pub adds-none : {A : Type 0} (a : Option (List A)) → MapAdds a a []
adds-none None = tt
adds-none (Some packets) = sym (append-nil packets)

-- some came behind, and then more
pub adds-then : {A : Type 0} (a b c : Option (List A)) (xs ys : List A) → MapAdds a b xs → MapAdds b c ys → MapAdds a c (xs ++ ys)
adds-then None b c xs ys first second = tt
adds-then (Some x) None c xs ys first second = absurd first
adds-then (Some x) (Some y) None xs ys first second = absurd second
adds-then (Some x) (Some y) (Some z) xs ys first second = second ∙ ap (λ l. l ++ ys) first ∙ append_assoc x xs ys

-- all of it, and then more
box-then : (a b c : BoxShown) (xs ys zs ws : List (List ℕ)) (ms ns : List Moved) → BoxGoes a xs zs ms b → BoxGoes b ys ws ns c → BoxGoes a (xs ++ ys) (zs ++ ws) (ms ++ ns) c
box-then a b c xs ys zs ws ms ns first second = record {
  takes = takes-then MESSAGE_MAX a.left b.left c.left xs ys first.takes second.takes;
  adds = adds-then a.given b.given c.given zs ws first.adds second.adds;
  moves = adds-then a.moved b.moved c.moved ms ns first.moves second.moves;
  take_faults = (let x = first.take_faults in let y = second.take_faults in omega arith);
  give_faults = (let x = first.give_faults in let y = second.give_faults in omega arith);
}

-- ---- one packet

-- the packet was read, and its reply given; or that couldn't be
pub packet-answered : (ports : List Mapping) (packet : List ℕ) (a b c : BoxShown) (stop : Option PacketEnd) → MapTakes MESSAGE_MAX a.left b.left (packet ∷ [])
    → MapAdds a.given b.given [] → MapAdds a.moved b.moved (Took packet ∷ []) → b.ended ≡ a.ended → a.take_faults ≤ b.take_faults → b.give_faults ≡ a.give_faults
    → AnswersPacket ports packet b stop c → MapAnswers ports 1 a stop c
packet-answered ports packet a b c stop takes adds moves ended take_faults give_faults one =
    record {
      read = packet ∷ [];
      given = one.given;
      moved = Took packet ∷ all_given one.given;
      goes = record {
        takes = takes-then MESSAGE_MAX a.left b.left c.left (packet ∷ []) [] takes (takes-any 0 MESSAGE_MAX b.left c.left one.takes);
        adds = adds-then a.given b.given c.given [] one.given adds one.adds;
        moves = adds-then a.moved b.moved c.moved (Took packet ∷ []) (all_given one.given) moves one.moves;
        take_faults = (let x = one.take_faults in omega arith);
        give_faults = (let x = one.give_faults in omega arith);
      };
      ended = by stop one.gives_reply (one.ended ∙ ended);
      ends = ends-as stop one.gives_reply;
    } where
      by : (o : Option PacketEnd) → GivesReply ports packet b one.given c o → c.ended ≡ a.ended → c.ended ≡ ended_by o a.ended
      by None gives same = same
      by (Some end.Served) gives same = absurd gives
      by (Some end.Ended) gives same = absurd gives
      by (Some end.ReadFault) gives same = absurd gives
      by (Some end.WriteFault) gives same = same

      ends-as : (o : Option PacketEnd) → GivesReply ports packet b one.given c o → PacketsEnd ports 1 a (packet ∷ []) one.given (Took packet ∷ all_given one.given) c o
      ends-as None gives = (refl, (gives, ap (λ g. Took packet ∷ all_given g) gives ∙ sym (append-nil (exchange ports packet))))
      ends-as (Some end.Served) gives = absurd gives
      ends-as (Some end.Ended) gives = absurd gives
      ends-as (Some end.ReadFault) gives = absurd gives
      ends-as (Some end.WriteFault) gives = (
        omega arith,
        record {
          earlier = [];
          last = packet;
          text = gives.1;
          read_are = refl;
          given_are = gives.0;
          moved_are = ap (λ g. Took packet ∷ all_given g) gives.0;
          has_reply = gives.2;
          rose = (let rose = gives.3 in let same = give_faults in omega arith);
        },
      )

-- ---- the work

-- nothing was read yet
pub answers-none : (ports : List Mapping) (box : BoxShown) → MapAnswers ports 0 box None box
answers-none ports box = record {
  read = [];
  given = [];
  moved = [];
  goes = record { takes = takes-none MESSAGE_MAX box.left; adds = adds-none box.given; moves = adds-none box.moved; take_faults = omega arith; give_faults = omega arith };
  ended = refl;
  ends = (refl, (refl, refl));
}

-- the replies to packets, and to more of them
replies-then : (ports : List Mapping) (xs ys zs ws : List (List ℕ)) → zs ≡ replies ports xs → ws ≡ replies ports ys → zs ++ ws ≡ replies ports (xs ++ ys)
replies-then ports xs ys zs ws first second =
    ap (λ l. l ++ ws) first ∙ ap (λ l. replies ports xs ++ l) second ∙ sym (filter_map-append (reply ports) xs ys)

-- what went through the box for packets, and for more of them
exchanges-then : (ports : List Mapping) (xs ys : List (List ℕ)) (ms ns : List Moved) → ms ≡ exchanges ports xs → ns ≡ exchanges ports ys → ms ++ ns ≡ exchanges ports (xs ++ ys)
exchanges-then ports xs ys ms ns first second =
    ap (λ l. l ++ ns) first ∙ ap (λ l. exchanges ports xs ++ l) second ∙ sym (flat_map-append (exchange ports) xs ys)

-- both
gives-then : (ports : List Mapping) (xs ys zs ws : List (List ℕ)) (ms ns : List Moved) → GivesAll ports xs zs ms → GivesAll ports ys ws ns
    → GivesAll ports (xs ++ ys) (zs ++ ws) (ms ++ ns)
gives-then ports xs ys zs ws ms ns first second = (replies-then ports xs ys zs ws first.0 second.0, exchanges-then ports xs ys ms ns first.1 second.1)

-- how the work over so many packets, and then over more, stands
ends-then : (ports : List Mapping) (n m : ℕ) (a b c : BoxShown) (xs ys zs ws : List (List ℕ)) (ms ns : List Moved) (stop : Option PacketEnd)
    → a.take_faults ≤ b.take_faults → a.give_faults ≤ b.give_faults → (length xs ≡ n) × GivesAll ports xs zs ms → PacketsEnd ports m b ys ws ns c stop
    → PacketsEnd ports (n + m) a (xs ++ ys) (zs ++ ws) (ms ++ ns) c stop
ends-then ports n m a b c xs ys zs ws ms ns None takes gives first second =
    let few = second.0 in
    let before = first.0 in
    (omega (arith, length-append xs ys), gives-then ports xs ys zs ws ms ns first.1 second.1)
ends-then ports n m a b c xs ys zs ws ms ns (Some end.Served) takes gives first second =
    let few = second.0 in
    let before = first.0 in
    (omega (arith, length-append xs ys), gives-then ports xs ys zs ws ms ns first.1 second.1)
ends-then ports n m a b c xs ys zs ws ms ns (Some end.Ended) takes gives first second =
    let few = second.0 in
    let before = first.0 in
    (omega (arith, length-append xs ys), gives-then ports xs ys zs ws ms ns first.1 second.1, second.2)
ends-then ports n m a b c xs ys zs ws ms ns (Some end.ReadFault) takes gives first second =
    let few = second.0 in
    let before = first.0 in
    (omega (arith, length-append xs ys), gives-then ports xs ys zs ws ms ns first.1 second.1, rose_earlier a.take_faults b.take_faults c.take_faults takes second.2)
ends-then ports n m a b c xs ys zs ws ms ns (Some end.WriteFault) takes gives first second =
    let few = second.0 in
    let before = first.0 in
    let stops = second.1 in (
      omega (arith, length-append xs ys),
      record {
        earlier = xs ++ stops.earlier;
        last = stops.last;
        text = stops.text;
        read_are = ap (λ l. xs ++ l) stops.read_are ∙ sym (append_assoc xs stops.earlier (stops.last ∷ []));
        given_are = replies-then ports xs stops.earlier zs ws first.1.0 stops.given_are;
        moved_are = ap (λ l. ms ++ l) stops.moved_are
            ∙ sym (append_assoc ms (exchanges ports stops.earlier) (Took stops.last ∷ []))
            ∙ ap (λ l. l ++ Took stops.last ∷ []) (exchanges-then ports xs stops.earlier ms (exchanges ports stops.earlier) first.1.1 refl);
        has_reply = stops.has_reply;
        rose = rose_earlier a.give_faults b.give_faults c.give_faults gives stops.rose;
      },
    )

-- so many packets were read and answered, and then the work went on with more
pub answers-then : (ports : List Mapping) (n m : ℕ) (a b c : BoxShown) (stop : Option PacketEnd) → MapAnswers ports n a None b → MapAnswers ports m b stop c
    → MapAnswers ports (n + m) a stop c
answers-then ports n m a b c stop first second = record {
  read = first.read ++ second.read;
  given = first.given ++ second.given;
  moved = first.moved ++ second.moved;
  goes = box-then a b c first.read second.read first.given second.given first.moved second.moved first.goes second.goes;
  ended = second.ended ∙ ap (ended_by stop) first.ended;
  ends = ends-then ports n m a b c first.read second.read first.given second.given first.moved second.moved stop first.goes.take_faults first.goes.give_faults first.ends
      second.ends;
}

-- an end that came early comes early under a higher limit, too
ends-within : (ports : List Mapping) (n limit : ℕ) (a b : BoxShown) (xs zs : List (List ℕ)) (ms : List Moved) (how : PacketEnd) → IsEarly (Some how) → n ≤ limit
    → PacketsEnd ports n a xs zs ms b (Some how) → PacketsEnd ports limit a xs zs ms b (Some how)
ends-within ports n limit a b xs zs ms end.Served early within ends = absurd early
ends-within ports n limit a b xs zs ms end.Ended early within ends = (let few = ends.0 in omega arith, ends.1, ends.2)
ends-within ports n limit a b xs zs ms end.ReadFault early within ends = (let few = ends.0 in omega arith, ends.1, ends.2)
ends-within ports n limit a b xs zs ms end.WriteFault early within ends = (let few = ends.0 in omega arith, ends.1)

-- one more
pub answers-more : (ports : List Mapping) (n : ℕ) (a b c : BoxShown) (said : Option PacketEnd) → said ≡ None → MapAnswers ports n a None b → MapAnswers ports 1 b said c
    → MapAnswers ports (n + 1) a None c
answers-more ports n a b c said is first second = answers-then ports n 1 a b c None first (subst (λ o. MapAnswers ports 1 b o c) is second)

-- the work ended there
pub counted-stop : (ports : List Mapping) (n limit : ℕ) (a b c : BoxShown) (said : Option PacketEnd) (how : PacketEnd) → said ≡ Some how → IsEarly said → n < limit
    → MapAnswers ports n a None b → MapAnswers ports 1 b said c → PacketsCounted ports limit a how n c
unfolding answers-then
counted-stop ports n limit a b c said how is early within first second = record {
  did = record {
    read = both.read;
    given = both.given;
    moved = both.moved;
    goes = both.goes;
    ended = both.ended;
    ends = ends-within ports (n + 1) limit a c both.read both.given both.moved how soon (omega arith) both.ends;
  };
  count = counts how soon then;
} where
  soon : IsEarly (Some how)
  soon = subst IsEarly is early

  then : MapAnswers ports 1 b (Some how) c
  then = subst (λ o. MapAnswers ports 1 b o c) is second

  both : MapAnswers ports (n + 1) a (Some how) c
  both = answers-then ports n 1 a b c (Some how) first then

  counts : (h : PacketEnd) → IsEarly (Some h) → (s : MapAnswers ports 1 b (Some h) c) → IsCount h n (first.read ++ s.read)
  counts end.Served early s = absurd early
  counts end.Ended early s =
      let before = first.ends.0 in
      let none = s.ends.0 in
      omega (arith, length-append first.read s.read)
  counts end.ReadFault early s = tt
  counts end.WriteFault early s = tt

-- the limit was reached
pub counted-all : (ports : List Mapping) (n limit : ℕ) (a b : BoxShown) → n ≤ limit → limit ≤ n → MapAnswers ports n a None b → PacketsCounted ports limit a end.Served n b
counted-all ports n limit a b within all so_far =
    let read = so_far.ends.0 in
    record {
      did = record {
        read = so_far.read;
        given = so_far.given;
        moved = so_far.moved;
        goes = so_far.goes;
        ended = so_far.ended;
        ends = (omega arith, so_far.ends.1);
      };
      count = sym read;
    }
