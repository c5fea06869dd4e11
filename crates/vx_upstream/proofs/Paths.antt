-- The calls along a path of the bus.
use Rattle.std.proofs.Common.{◌≡◌, ◌⊎◌, ℕ, List, [], ◌∷◌, ◌++◌, map, take, drop, refl, sym, ap, ◌∙◌, subst, append_assoc, append-nil, inl, inr, Bool, true, false, Result, Ok, Err}
use Rattle.vx_488.specs.declared.transfers.Transfer.{Transfer}
use Rattle.vx_488.specs.declared.transfers.Transfer.TheVariants.{Cmd, Put, Got, Ren, Atn, Ifc, Own}
use Rattle.vx_488.specs.Wire.{wire_after}
use Rattle.vx_488.specs.Means.{Means}
use Rattle.vx_488.specs.Steps.{Step, Went, Held, Failed, Told, Cut, Path, ask_for, move_step}
use Rattle.vx_488.specs.Bursts.{ended, puts_steps, gets_steps, refused_put, refused_get, is_end}
use Rattle.vx_488.specs.declared.asks.Ask.TheVariants as ask
use Rattle.vx_488.specs.declared.asks.Move.{Move}
use Rattle.vx_488.specs.declared.asks.Move.TheVariants as answer
use Rattle.vx_488.specs.declared.bursts.Many.{Many}
use Rattle.vx_488.specs.declared.bursts.ManyGot.{ManyGot}
use Rattle.vx_488.specs.declared.bursts.Stop.{Stop}
use Rattle.vx_488.specs.declared.bursts.Stop.TheVariants as stop
use Rattle.vx_client.specs.State.{ClientState}
use Rattle.vx_client.specs.Calls.{command}
use Rattle.vx_client.specs.Meaning.{len_of}
use Rattle.vx_client.specs.declared.answers.ClientErr.{ClientErr}
use Rattle.vx_upstream.specs.UpstreamState.{UpstreamState, Terms, Kept, opts_at, after}
use Rattle.vx_client.specs.Sizes.{bytes_told}
use Rattle.vx_calls.specs.declared.calls.Proc.TheVariants as proc
use Rattle.vx_upstream.specs.Answering.{order_move, bytes_come}
use Rattle.vx_upstream.specs.Sending.{LinkWords, OneCall, Orders, LooksAtSrq, LooksAtNdac}
use Rattle.vx_upstream.specs.Bringing.{Access, access_of}
use Rattle.vx_upstream.specs.Stepping.{Tells, Idles, ClearsBus, ComesBack, LooksHere, Does, Through, moved}
use Rattle.vx_upstream.specs.Spelling.{where_done, Spells, by_command, by_ren, by_atn, by_ifc, by_own, by_write, by_read, by_look, by_try, by_clear, where_cleared, SpellInTurn, in_order, went, CallsSpellLaw}

-- ---- the transfers of steps

went-append : (xs ys : List Step) → went (xs ++ ys) ≡ went xs ++ went ys
went-append [] ys = refl
went-append (Went t ∷ xs) ys = ap (λ (ts : List Transfer). t ∷ ts) (went-append xs ys)
went-append (Held asked ∷ xs) ys = went-append xs ys
went-append (Failed asked ∷ xs) ys = went-append xs ys
went-append (Told now ∷ xs) ys = went-append xs ys
went-append (Cut ∷ xs) ys = went-append xs ys

went-map : (ts : List Transfer) → went (map Went ts) ≡ ts
went-map [] = refl
went-map (t ∷ ts) = ap (λ (us : List Transfer). t ∷ us) (went-map ts)

-- steps of which the last didn't go
went-refused : (ts : List Transfer) (rest : List Step) → went rest ≡ [] → went (map Went ts ++ rest) ≡ ts
went-refused ts rest none = went-append (map Went ts) rest ∙ ap (λ (us : List Transfer). went (map Went ts) ++ us) none ∙ append-nil (went (map Went ts)) ∙ went-map ts

refused_put-none : (how : Move) (ts : List Transfer) → went (refused_put how ts) ≡ []
refused_put-none answer.Went ts = refl
refused_put-none answer.Held [] = refl
refused_put-none answer.Held (t ∷ ts) = refl
refused_put-none answer.Failed [] = refl
refused_put-none answer.Failed (t ∷ ts) = refl

refused_get-none : (why : Stop) → went (refused_get why) ≡ []
refused_get-none stop.Full = refl
refused_get-none stop.End = refl
refused_get-none stop.Char = refl
refused_get-none stop.Held = refl
refused_get-none stop.Failed = refl

went-puts : (bytes : List ℕ) (end : Bool) (m : Many) → went (puts_steps bytes end m) ≡ take m.moved (ended Put end bytes)
went-puts bytes end m = went-refused (take m.moved (ended Put end bytes)) (refused_put m.last (drop m.moved (ended Put end bytes))) (refused_put-none m.last (drop m.moved (ended Put end bytes)))

went-gets : (bytes : List ℕ) (why : Stop) → went (gets_steps bytes why) ≡ ended Got (is_end why) bytes
went-gets bytes why = went-refused (ended Got (is_end why) bytes) (refused_get why) (refused_get-none why)

in_order-append : (xs ys : List (List Transfer)) → in_order (xs ++ ys) ≡ in_order xs ++ in_order ys
in_order-append [] ys = refl
in_order-append (x ∷ xs) ys = ap (λ (ts : List Transfer). x ++ ts) (in_order-append xs ys) ∙ sym (append_assoc x (in_order xs) (in_order ys))

-- an order that went was answered with error 0, and one that failed wasn't
done-went : (r : Result ℕ ClientErr) (t : Transfer) → answer.Went ≡ order_move r → where_done r t ≡ t ∷ []
done-went (Ok len) t e = refl
done-went (Err err) t e = absurd (cc)

done-failed : (r : Result ℕ ClientErr) (t : Transfer) → answer.Failed ≡ order_move r → where_done r t ≡ []
done-failed (Ok len) t e = absurd (cc)
done-failed (Err err) t e = refl

never-held : (r : Result ℕ ClientErr) → answer.Held ≡ order_move r → ⊥
never-held (Ok len) e = cc
never-held (Err err) e = cc

module _ {L : Type 0} (w : LinkWords L) where
  turn-append : (terms : Terms) (old mid new : Access L) (xs ys : List (List Transfer)) → SpellInTurn w terms old xs mid → SpellInTurn w terms mid ys new
      → SpellInTurn w terms old (xs ++ ys) new
  turn-append terms old mid new [] ys first second = subst (λ (a : Access L). SpellInTurn w terms a ys new) first second
  turn-append terms old mid new (x ∷ xs) ys first second = (first.0, first.1, turn-append terms first.0 mid new xs ys first.2 second)

  -- the calls of one step: with what is due behind it they spell what was due before it, and its own transfer
  pub record Spoken (old new : UpstreamState L) (s : Step) : Type 0 where
    pub spelled : List (List Transfer)
    pub calls : SpellInTurn w old.terms (access_of old) spelled (access_of new)
    pub same : went (s ∷ []) ++ went new.due ≡ went old.due ++ in_order spelled

  -- one call, of which nothing is due before or behind
  spoken-alone : (old new : UpstreamState L) (s : Step) (ts : List Transfer) → old.due ≡ [] → new.due ≡ [] → Spells w old.terms (access_of old) (access_of new) ts → ts ≡ went (s ∷ []) → Spoken old new s
  spoken-alone old new s ts free free' spells is = record {
    spelled = ts ∷ [];
    calls = (access_of new, spells, refl);
    same = ap (λ (d : List Step). went (s ∷ []) ++ went d) free' ∙ append-nil (went (s ∷ [])) ∙ sym is ∙ sym (append-nil ts) ∙ ap (λ (d : List Step). went d ++ (ts ++ [])) (sym free);
  }

  -- the way to the box stays where its client and its link there do
  same-access : (old new : UpstreamState L) → new.client ≡ old.client → new.made ≡ old.made → access_of new ≡ access_of old
  same-access old new client made =
      ap (λ c. record { client = c; made = new.made }) client ∙ ap (λ m. record { client = old.client; made = m }) made

  -- none, for an ask that failed
  spoken-none : (old new : UpstreamState L) (s : Step) → old.due ≡ [] → new.due ≡ [] → new.client ≡ old.client → new.made ≡ old.made → went (s ∷ []) ≡ [] → Spoken old new s
  spoken-none old new s free free' client made none = record {
    spelled = [];
    calls = same-access old new client made;
    same = ap (λ (d : List Step). went (s ∷ []) ++ went d) free' ∙ append-nil (went (s ∷ [])) ∙ none ∙ ap (λ (d : List Step). went d ++ []) (sym free);
  }

  -- an order
  spoken-order : (old new : UpstreamState L) (m : Move) (t : Transfer) (cmd : ℕ) (bytes : List ℕ)
      → ((r : Result ℕ ClientErr) → OneCall w old.client new.client (command old.made.lid (opts_at old.terms.patience 0) cmd bytes) 4 len_of r
      → Spells w old.terms (access_of old) (access_of new) (where_done r t))
      → old.due ≡ [] → new.due ≡ [] → new.made ≡ old.made → Orders w cmd bytes m old new → Spoken old new (move_step t m)
  spoken-order old new answer.Went t cmd bytes says free free' made (inl (here, (r, called, is))) =
      spoken-alone old new (Went t) (where_done r t) free free' (says r called) (done-went r t is)
  spoken-order old new answer.Held t cmd bytes says free free' made (inl (here, (r, called, is))) = absurd (never-held r is)
  spoken-order old new answer.Failed t cmd bytes says free free' made (inl (here, (r, called, is))) =
      spoken-alone old new (Failed (ask_for t)) (where_done r t) free free' (says r called) (done-failed r t is)
  spoken-order old new answer.Went t cmd bytes says free free' made (inr (away, failed, client)) = absurd (cc)
  spoken-order old new answer.Held t cmd bytes says free free' made (inr (away, failed, client)) = absurd (cc)
  spoken-order old new answer.Failed t cmd bytes says free free' made (inr (away, failed, client)) =
      spoken-none old new (Failed (ask_for t)) free free' client made refl

  -- a step of a burst
  spoken-burst : (old new : UpstreamState L) (s : Step) → went (s ∷ new.due) ≡ went (s ∷ []) ++ went new.due → new.made ≡ old.made → Tells w s old new → Spoken old new s
  spoken-burst old new s split made (inl (due, client)) = record {
    spelled = [];
    calls = same-access old new client made;
    same = sym split ∙ ap went (sym due) ∙ sym (append-nil (went old.due));
  }
  spoken-burst old new s split made (inr (free, here, inl (bytes, end, m, (r, called, is), steps))) = record {
    spelled = take m.moved (ended Put end bytes) ∷ [];
    calls = (
      access_of new,
      subst (λ (k : Many). Spells w old.terms (access_of old) (access_of new) (take k.moved (ended Put end bytes))) (sym is) (by_write bytes end r called made),
      refl,
    );
    same = sym split ∙ ap went steps ∙ went-puts bytes end m ∙ sym (append-nil (take m.moved (ended Put end bytes)))
        ∙ ap (λ (d : List Step). went d ++ (take m.moved (ended Put end bytes) ++ [])) (sym free);
  }
  spoken-burst old new s split made (inr (free, here, inr (room, char, bytes, m, (r, called, is, got), steps))) = record {
    spelled = ended Got (is_end m.stop) bytes ∷ [];
    calls = (
      access_of new,
      subst (λ (bs : List ℕ). Spells w old.terms (access_of old) (access_of new) (ended Got (is_end m.stop) bs)) (sym got)
          (subst (λ (k : ManyGot). Spells w old.terms (access_of old) (access_of new) (ended Got (is_end k.stop) (take k.got (bytes_come r (bytes_told proc.Read new.client.last)))))
          (sym is) (by_read room char r called made)),
      refl,
    );
    same = sym split ∙ ap went steps ∙ went-gets bytes m.stop ∙ sym (append-nil (ended Got (is_end m.stop) bytes))
        ∙ ap (λ (d : List Step). went d ++ (ended Got (is_end m.stop) bytes ++ [])) (sym free);
  }

  -- or an ask of a bus that is away
  spoken-refused : (old new : UpstreamState L) (s : Step) → went (s ∷ new.due) ≡ went (s ∷ []) ++ went new.due → went (s ∷ []) ≡ [] → new.made ≡ old.made → Tells w s old new ⊎ Idles old new → Spoken old new s
  spoken-refused old new s split none made (inl tells) = spoken-burst old new s split made tells
  spoken-refused old new s split none made (inr (free, free', away, client)) = spoken-none old new s free free' client made none

  -- ---- a moment: calls that spell nothing

  record Looked (old new : UpstreamState L) : Type 0 where
    pub spelled : List (List Transfer)
    pub calls : SpellInTurn w old.terms (access_of old) spelled (access_of new)
    pub none : in_order spelled ≡ []
    pub due : new.due ≡ old.due
    pub terms : new.terms ≡ old.terms

  looked-srq : (now : ℕ) (old new : UpstreamState L) → LooksAtSrq w now old new → Looked old new
  looked-srq now old new (inl (late, (r, called, level, kept), is)) = record {
    spelled = [] ∷ [];
    calls = (access_of new, by_look 2 r called (ap (λ (s : UpstreamState L). s.made) is), refl);
    none = refl;
    due = ap (λ (s : UpstreamState L). s.due) is;
    terms = ap (λ (s : UpstreamState L). s.terms) is;
  }
  looked-srq now old new (inr (early, is)) = record {
    spelled = [];
    calls = ap access_of is;
    none = refl;
    due = ap (λ (s : UpstreamState L). s.due) is;
    terms = ap (λ (s : UpstreamState L). s.terms) is;
  }

  looked-ndac : (now : ℕ) (old new : UpstreamState L) → LooksAtNdac w now old new → Looked old new
  looked-ndac now old new (inl (late, (r, called, level, kept), is)) = record {
    spelled = [] ∷ [];
    calls = (access_of new, by_look 3 r called (ap (λ (s : UpstreamState L). s.made) is), refl);
    none = refl;
    due = ap (λ (s : UpstreamState L). s.due) is;
    terms = ap (λ (s : UpstreamState L). s.terms) is;
  }
  looked-ndac now old new (inr (early, is)) = record {
    spelled = [];
    calls = ap access_of is;
    none = refl;
    due = ap (λ (s : UpstreamState L). s.due) is;
    terms = ap (λ (s : UpstreamState L). s.terms) is;
  }

  -- one and then the other
  looked-both : (old mid new : UpstreamState L) → Looked old mid → Looked mid new → Looked old new
  looked-both old mid new first second =
      let same : SpellInTurn w old.terms (access_of mid) second.spelled (access_of new) =
      subst (λ (t : Terms). SpellInTurn w t (access_of mid) second.spelled (access_of new)) first.terms second.calls in
      record {
        spelled = first.spelled ++ second.spelled;
        calls = turn-append old.terms (access_of old) (access_of mid) (access_of new) first.spelled second.spelled first.calls same;
        none = in_order-append first.spelled second.spelled ∙ ap (λ (ts : List Transfer). ts ++ in_order second.spelled) first.none ∙ second.none;
        due = second.due ∙ first.due;
        terms = second.terms ∙ first.terms;
      }

  looked-here : (now : ℕ) (old new : UpstreamState L) → LooksHere w now old new → Looked old new
  looked-here now old new (inl (here, (mid, first, second))) = looked-both old mid new (looked-srq now old mid first) (looked-ndac now mid new second)
  looked-here now old new (inr (away, is)) = record {
    spelled = [];
    calls = ap access_of is;
    none = refl;
    due = ap (λ (s : UpstreamState L). s.due) is;
    terms = ap (λ (s : UpstreamState L). s.terms) is;
  }

  looked-back : (old new : UpstreamState L) → ComesBack w old new → Looked old new
  looked-back old new (inl (time, (done, (brings, is)))) = record {
    spelled = [] ∷ [];
    calls = (access_of new, by_try old.kept.standing old.kept.means.wire done brings, refl);
    none = refl;
    due = ap (λ (s : UpstreamState L). s.due) is;
    terms = ap (λ (s : UpstreamState L). s.terms) is;
  }
  looked-back old new (inr (early, is)) = record {
    spelled = [];
    calls = ap access_of is;
    none = refl;
    due = ap (λ (s : UpstreamState L). s.due) is;
    terms = ap (λ (s : UpstreamState L). s.terms) is;
  }

  spoken-moment : (now : ℕ) (old new : UpstreamState L) → Looked (record old { moment = now }) new → Spoken old new (Told now)
  spoken-moment now old new looked = record {
    spelled = looked.spelled;
    calls = looked.calls;
    same = ap went looked.due ∙ sym (append-nil (went old.due)) ∙ ap (λ (ts : List Transfer). went old.due ++ ts) (sym looked.none);
  }

  -- ---- an interface clear

  cleared-step : (done : Bool) (m : Move) → m ≡ moved done → where_cleared done ≡ went (move_step Ifc m ∷ [])
  cleared-step true m is = sym (ap (λ (k : Move). went (move_step Ifc k ∷ [])) is)
  cleared-step false m is = sym (ap (λ (k : Move). went (move_step Ifc k ∷ [])) is)

  spoken-clear : (m : Move) (old mid new : UpstreamState L) → old.due ≡ [] → new ≡ record mid { kept = after mid.kept (move_step Ifc m) } → ClearsBus w m old mid → Spoken old new (move_step Ifc m)
  spoken-clear m old mid new free is (inl (others, orders, rest)) =
      let made : new.made ≡ old.made = ap (λ (s : UpstreamState L). s.made) is ∙ ap (λ (s : UpstreamState L). s.made) rest in
      let free' : new.due ≡ [] = ap (λ (s : UpstreamState L). s.due) is ∙ ap (λ (s : UpstreamState L). s.due) rest ∙ free in
      spoken-order old new m Ifc 0x020010 [] (λ r called. by_ifc r called made) free free' made
      (subst (λ (c : ClientState L). Orders w 0x020010 [] m old (record mid { client = c })) (sym (ap (λ (s : UpstreamState L). s.client) is)) orders)
  spoken-clear m old mid new free is (inr (clears, (done, says, (brings, rest)))) =
      let same : access_of new ≡ access_of mid = ap access_of is in
      let free' : new.due ≡ [] = ap (λ (s : UpstreamState L). s.due) is ∙ ap (λ (s : UpstreamState L). s.due) rest ∙ free in
      spoken-alone old new (move_step Ifc m) (where_cleared done) free free'
      (subst (λ (a : Access L). Spells w old.terms (access_of old) a (where_cleared done)) (sym same) (by_clear old.kept.standing old.kept.means.wire done brings))
      (cleared-step done m says)

  -- each step
  spoken : (s : Step) (old new : UpstreamState L) → Does w s old new → Spoken old new s
  spoken (Went (Put b end)) old new ((kept, made, moment, levels), tells) = spoken-burst old new (Went (Put b end)) refl made tells
  spoken (Went (Got b end)) old new ((kept, made, moment, levels), tells) = spoken-burst old new (Went (Got b end)) refl made tells
  spoken (Went (Cmd b)) old new ((kept, made, moment, levels), (free, free', orders)) =
      spoken-order old new answer.Went (Cmd b) 0x020000 _ (λ r called. by_command b r called made) free free' made orders
  spoken (Went (Ren on)) old new ((kept, made, moment, levels), (free, free', orders)) =
      spoken-order old new answer.Went (Ren on) 0x020003 _ (λ r called. by_ren on r called made) free free' made orders
  spoken (Went (Atn on)) old new ((kept, made, moment, levels), (free, free', orders)) =
      spoken-order old new answer.Went (Atn on) 0x020002 _ (λ r called. by_atn on r called made) free free' made orders
  spoken (Went Ifc) old new (mid, clears, is, free) = spoken-clear answer.Went old mid new free is clears
  spoken (Went (Own a)) old new ((kept, made, moment, levels), (free, free', orders)) =
      spoken-order old new answer.Went (Own a) 0x02000A _ (λ r called. by_own a r called made) free free' made orders
  spoken (Held (ask.Put b end)) old new ((kept, made, moment, levels), tells) = spoken-burst old new (Held (ask.Put b end)) refl made tells
  spoken (Held ask.Get) old new ((kept, made, moment, levels), tells) = spoken-burst old new (Held ask.Get) refl made tells
  spoken (Held (ask.Cmd b)) old new ((kept, made, moment, levels), (free, free', orders)) =
      spoken-order old new answer.Held (Cmd b) 0x020000 _ (λ r called. by_command b r called made) free free' made orders
  spoken (Held (ask.Ren on)) old new ((kept, made, moment, levels), (free, free', orders)) =
      spoken-order old new answer.Held (Ren on) 0x020003 _ (λ r called. by_ren on r called made) free free' made orders
  spoken (Held (ask.Atn on)) old new ((kept, made, moment, levels), (free, free', orders)) =
      spoken-order old new answer.Held (Atn on) 0x020002 _ (λ r called. by_atn on r called made) free free' made orders
  spoken (Held ask.Ifc) old new ((kept, made, moment, levels), (free, free', orders)) =
      spoken-order old new answer.Held Ifc 0x020010 _ (λ r called. by_ifc r called made) free free' made orders
  spoken (Held (ask.Own a)) old new ((kept, made, moment, levels), (free, free', orders)) =
      spoken-order old new answer.Held (Own a) 0x02000A _ (λ r called. by_own a r called made) free free' made orders
  spoken (Failed (ask.Put b end)) old new ((kept, made, moment, levels), tells) = spoken-refused old new (Failed (ask.Put b end)) refl refl made tells
  spoken (Failed ask.Get) old new ((kept, made, moment, levels), tells) = spoken-refused old new (Failed ask.Get) refl refl made tells
  spoken (Failed (ask.Cmd b)) old new ((kept, made, moment, levels), (free, free', orders)) =
      spoken-order old new answer.Failed (Cmd b) 0x020000 _ (λ r called. by_command b r called made) free free' made orders
  spoken (Failed (ask.Ren on)) old new ((kept, made, moment, levels), (free, free', orders)) =
      spoken-order old new answer.Failed (Ren on) 0x020003 _ (λ r called. by_ren on r called made) free free' made orders
  spoken (Failed (ask.Atn on)) old new ((kept, made, moment, levels), (free, free', orders)) =
      spoken-order old new answer.Failed (Atn on) 0x020002 _ (λ r called. by_atn on r called made) free free' made orders
  spoken (Failed ask.Ifc) old new (mid, clears, is, free) = spoken-clear answer.Failed old mid new free is clears
  spoken (Failed (ask.Own a)) old new ((kept, made, moment, levels), (free, free', orders)) =
      spoken-order old new answer.Failed (Own a) 0x02000A _ (λ r called. by_own a r called made) free free' made orders
  spoken (Told now) old new (due, (mid, back, looks)) =
      spoken-moment now old new (looked-both (record old { moment = now }) mid new (looked-back (record old { moment = now }) mid back) (looked-here now mid new looks))
  spoken Cut old new ((kept, made, moment, levels), (due, client)) = record {
    spelled = [];
    calls = same-access old new client made;
    same = ap went due ∙ sym (append-nil (went old.due));
  }

  went-first : (s : Step) (steps : List Step) → went (s ∷ steps) ≡ went (s ∷ []) ++ went steps
  went-first s steps = went-append (s ∷ []) steps

  -- the calls of a path
  path-spelled : (steps : List Step) (old new : UpstreamState L) → Path (λ (o : UpstreamState L) s n. Through w o s n) old steps new → new.due ≡ []
      → (spelled : List (List Transfer)) × SpellInTurn w old.terms (access_of old) spelled (access_of new) × (went steps ≡ went old.due ++ in_order spelled)
  path-spelled [] old new path free =
      ([], ap access_of path, ap went (sym free ∙ ap (λ (s : UpstreamState L). s.due) path) ∙ sym (append-nil (went old.due)))
  path-spelled (s ∷ steps) old new (next, (means, terms, does), path) free =
      let here : Spoken old next s = spoken s old next does in
      let later = path-spelled steps next new path free in
      let same : SpellInTurn w old.terms (access_of next) later.0 (access_of new) =
      subst (λ (t : Terms). SpellInTurn w t (access_of next) later.0 (access_of new)) terms later.1 in (
        here.spelled ++ later.0,
        turn-append old.terms (access_of old) (access_of next) (access_of new) here.spelled later.0 here.calls same,
        went-first s steps ∙ ap (λ (ts : List Transfer). went (s ∷ []) ++ ts) later.2 ∙ sym (append_assoc (went (s ∷ [])) (went next.due) (in_order later.0))
            ∙ ap (λ (ts : List Transfer). ts ++ in_order later.0) here.same ∙ append_assoc (went old.due) (in_order here.spelled) (in_order later.0)
            ∙ ap (λ (ts : List Transfer). went old.due ++ ts) (sym (in_order-append here.spelled later.0)),
      )

  -- and its wire
  wire-step : (k : Kept) (s : Step) (steps : List Step) → wire_after (after k s).means.wire (went steps) ≡ wire_after k.means.wire (went (s ∷ steps))
  wire-step k (Went t) steps = refl
  wire-step k (Held asked) steps = refl
  wire-step k (Failed asked) steps = refl
  wire-step k (Told now) steps = refl
  wire-step k Cut steps = refl

  path-wire : (steps : List Step) (old new : UpstreamState L) → Path (λ (o : UpstreamState L) s n. Through w o s n) old steps new → new.kept.means.wire ≡ wire_after old.kept.means.wire (went steps)
  path-wire [] old new path = ap (λ (s : UpstreamState L). s.kept.means.wire) path
  path-wire (s ∷ steps) old new (next, (means, terms, does), path) =
      path-wire steps next new path ∙ ap (λ (m : Means). wire_after m.wire (went steps)) means ∙ wire-step old.kept s steps

  pub calls-spell : CallsSpellLaw w
  calls-spell old new steps free free' path =
      let found = path-spelled steps old new path free' in
      let none : went old.due ++ in_order found.0 ≡ in_order found.0 = ap (λ (d : List Step). went d ++ in_order found.0) free in
      let same : in_order found.0 ≡ went steps = sym (found.2 ∙ none) in
      (found.0, found.1, same, path-wire steps old new path ∙ ap (λ (ts : List Transfer). wire_after old.kept.means.wire ts) (sym same))
