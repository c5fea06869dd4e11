-- Numbers of links, in range and apart.
use Rattle.std.proofs.Common.{◌≡◌, ◌≢◌, ◌≤◌, ◌<◌, ℕ, Bool, List, [], ◌∷◌, ◌++◌, map, Option, None, Some, refl, arith}
use Rattle.std.specs.List.{All, AllPairs}
use Rattle.std.proofs.lemmas.List.Elements.{All-nil, All-cons, All-append, All-head, All-tail, All-map, All-weaker}
use Rattle.std.proofs.lemmas.List.Kept.{AllPairs-cons}
use Rattle.vx_lemmas.proofs.Laws.Filters.{pairs_head, pairs_tail}
use Rattle.vx_calls.specs.declared.codes.ErrorCode.TheVariants as code
use Rattle.vx_calls.specs.Reply.{Reply}
use Rattle.vx_calls.specs.Reply as reply
use Rattle.vx_488.specs.declared.transfers.Transfer.{Transfer}
use Rattle.vx_rules.specs.Entry.{Entry, Answer}
use Rattle.vx_rules.specs.Lists.{along}
use Rattle.vx_rules.specs.Numbers.{link_told, link_given, links_given, LinkGivenLaw, LinksGivenOnceLaw}
use Rattle.vx_rules.specs.AtomicStep.{atomic_step}
use Rattle.vx_rules.specs.Sound.{IsSound}
use Rattle.vx_rules.specs.State.{State, first}
use Rattle.vx_rules.proofs.Laws.Keeping.{first-sound}
use Rattle.vx_rules.proofs.Laws.Walks.{atomic-sound, along-none}
use Rattle.vx_desks.specs.Numbers.{global_number}
use Rattle.vx_desks.specs.Given.{IsLink, given_on, LinksLaw, OnceLaw}

-- ---- pairs of a list

-- none
pairs-nil : {X : Type 0} (R : X → X → Type 0) → AllPairs R []
pairs-nil R = λ i j d before h. absurd (omega arith)

-- two lists, one behind the other
pairs-append : {X : Type 0} (R : X → X → Type 0) (xs ys : List X) → AllPairs R xs → AllPairs R ys → All (λ x. All (R x) ys) xs → AllPairs R (xs ++ ys)
pairs-append R [] ys before after across = after
pairs-append R (x ∷ xs) ys before after across =
    AllPairs-cons R x (xs ++ ys) (All-append (R x) xs ys (pairs_head R x xs before) (All-head (λ z. All (R z) ys) x xs across))
    (pairs-append R xs ys (pairs_tail R x xs before) after (All-tail (λ z. All (R z) ys) x xs across))

-- ---- the numbers over all buses

-- of two links of one bus
rising-apart : (bus x y : ℕ) → 1 ≤ x → x < y → global_number bus x ≢ global_number bus y
rising-apart bus x y least before same = omega arith

-- of links of two buses
buses-apart : (b c x y : ℕ) → b ≤ 3 → c ≤ 3 → b < c → global_number b x ≢ global_number c y
buses-apart b c x y hb hc apart same = omega arith

-- those of one bus
on-one : (bus : ℕ) (lids : List ℕ) → All IsLink lids → AllPairs (λ m n. m < n) lids → AllPairs (λ m n. m ≢ n) (map (global_number bus) lids)
on-one bus [] links pairs = pairs-nil (λ m n. m ≢ n)
on-one bus (x ∷ xs) links pairs =
    let here = All-head IsLink x xs links in
    let least : 1 ≤ x = here.least in
    AllPairs-cons (λ m n. m ≢ n) (global_number bus x) (map (global_number bus) xs)
    (All-map (λ n. global_number bus x ≢ n) (global_number bus) xs
    (All-weaker (λ y. x < y) (λ y. global_number bus x ≢ global_number bus y) (λ y before. rising-apart bus x y least before) xs (pairs_head (λ m n. m < n) x xs pairs)))
    (on-one bus xs (All-tail IsLink x xs links) (pairs_tail (λ m n. m < n) x xs pairs))

-- one number beside those of a later bus
beside : (b c x : ℕ) (ys : List ℕ) → b ≤ 3 → c ≤ 3 → b < c → All (λ n. global_number b x ≢ n) (map (global_number c) ys)
beside b c x [] hb hc apart = All-nil (λ n. global_number b x ≢ n)
beside b c x (y ∷ ys) hb hc apart =
    All-cons (λ n. global_number b x ≢ n) (global_number c y) (map (global_number c) ys) (buses-apart b c x y hb hc apart) (beside b c x ys hb hc apart)

-- those of a bus beside others, each number of which is apart from them
across : (bus : ℕ) (xs others : List ℕ) → ((x : ℕ) → All (λ n. global_number bus x ≢ n) others) → All (λ m. All (λ n. m ≢ n) others) (map (global_number bus) xs)
across bus [] others apart = All-nil (λ m. All (λ n. m ≢ n) others)
across bus (x ∷ xs) others apart = All-cons (λ m. All (λ n. m ≢ n) others) (global_number bus x) (map (global_number bus) xs) (apart x) (across bus xs others apart)

-- ---- what a history gives

-- a reply that tells a link
told-within : (s t : State) (conn now begun : ℕ) (moves : List Transfer) (failed : Bool) (dialed : Option Bool) (level : Bool) (told : Reply) → LinkGivenLaw → IsSound s.tables
    → IsSound t.tables → atomic_step s (Answer conn now begun moves failed dialed level told) ≡ Some t → All IsLink (link_told told)
told-within s t conn now begun moves failed dialed level (reply.CreateLink code.Ok lid port max) given before after h =
    let used = given s t conn now begun moves failed dialed level lid port max h in
    let least = before.numbered.first in
    let last = after.numbered.last in
    let is = used.0 in
    let more = used.1 in
    All-cons IsLink lid [] (record { least = omega arith; most = omega arith }) (All-nil IsLink)
told-within s t conn now begun moves failed dialed level _ given before after h = All-nil IsLink

-- an entry
entry-within : (s t : State) (e : Entry) → LinkGivenLaw → IsSound s.tables → IsSound t.tables → atomic_step s e ≡ Some t → All IsLink (link_given e)
entry-within s t (Answer conn now begun moves failed dialed level told) given before after h =
    told-within s t conn now begun moves failed dialed level told given before after h
entry-within s t _ given before after h = All-nil IsLink

-- a history from a state
along-within : (history : List Entry) (s t : State) → LinkGivenLaw → IsSound s.tables → along atomic_step (Some s) history ≡ Some t → All IsLink (links_given history)
along-within [] s t given sound h = All-nil IsLink
along-within (e ∷ es) s t given sound h = by (atomic_step s e) refl h (along-within es) where
  by : (o : Option State) → atomic_step s e ≡ o → along atomic_step o es ≡ Some t
      → ((s t : State) → LinkGivenLaw → IsSound s.tables → along atomic_step (Some s) es ≡ Some t → All IsLink (links_given es)) → All IsLink (links_given (e ∷ es))
  by None is h rest = absurd (along-none es t h)
  by (Some m) is h rest =
      let after = atomic-sound s m e sound is in
      All-append IsLink (link_given e) (links_given es) (entry-within s m e given sound after is) (rest m t given after h)

pub links-law : LinkGivenLaw → LinksLaw
links-law given abort_port history s h = along-within history (first abort_port) s given (first-sound abort_port) h

pub once-law : LinkGivenLaw → LinksGivenOnceLaw → OnceLaw
once-law given rising p q r t h0 h1 h2 h3 a b c d legal0 legal1 legal2 legal3 =
    let R : ℕ → ℕ → Type 0 = λ m n. m ≢ n in
    let xs0 = links_given h0 in
    let xs1 = links_given h1 in
    let xs2 = links_given h2 in
    let xs3 = links_given h3 in
    let one0 = on-one 0 xs0 (links-law given p h0 a legal0) (rising p h0 a legal0) in
    let one1 = on-one 1 xs1 (links-law given q h1 b legal1) (rising q h1 b legal1) in
    let one2 = on-one 2 xs2 (links-law given r h2 c legal2) (rising r h2 c legal2) in
    let one3 = on-one 3 xs3 (links-law given t h3 d legal3) (rising t h3 d legal3) in
    let last : AllPairs R (given_on 2 h2 ++ given_on 3 h3) =
    pairs-append R (given_on 2 h2) (given_on 3 h3) one2 one3 (across 2 xs2 (given_on 3 h3) (λ x. beside 2 3 x xs3 (omega arith) (omega arith) (omega arith))) in
    let later : AllPairs R (given_on 1 h1 ++ (given_on 2 h2 ++ given_on 3 h3)) =
    pairs-append R (given_on 1 h1) (given_on 2 h2 ++ given_on 3 h3) one1 last
    (across 1 xs1 (given_on 2 h2 ++ given_on 3 h3)
    (λ x. All-append (λ n. global_number 1 x ≢ n) (given_on 2 h2) (given_on 3 h3) (beside 1 2 x xs2 (omega arith) (omega arith) (omega arith))
    (beside 1 3 x xs3 (omega arith) (omega arith) (omega arith)))) in
    pairs-append R (given_on 0 h0) (given_on 1 h1 ++ (given_on 2 h2 ++ given_on 3 h3)) one0 later
    (across 0 xs0 (given_on 1 h1 ++ (given_on 2 h2 ++ given_on 3 h3))
    (λ x. All-append (λ n. global_number 0 x ≢ n) (given_on 1 h1) (given_on 2 h2 ++ given_on 3 h3) (beside 0 1 x xs1 (omega arith) (omega arith) (omega arith))
    (All-append (λ n. global_number 0 x ≢ n) (given_on 2 h2) (given_on 3 h3) (beside 0 2 x xs2 (omega arith) (omega arith) (omega arith))
    (beside 0 3 x xs3 (omega arith) (omega arith) (omega arith)))))
