-- Laws of what is known of a link and of its calls, proved.
use Rattle.std.proofs.Common.{◌≡◌, ◌≤◌, ℕ, List, [], ◌∷◌, ◌++◌, Option, None, Some, IfSome, refl, ap, ◌∙◌, subst, append-nil, arith}
use Rattle.std.proofs.lemmas.List.Concat.{flat_map-append}
use Rattle.std.specs.Io.KnownBytes.{Consumes, IsAtEnd, Keeps}
use Rattle.std.proofs.KnownBytes.{Consumes-nil, Consumes-trans, Consumes-kept, Keeps-refl, Keeps-trans}
use Rattle.vx_io_traits.specs.declared.WriteOut.{WriteOut}
use Rattle.vx_io_traits.specs.declared.links.Link.{Ghosts}
use Rattle.vx_stream.specs.Shown.{LinkShown, LinkGoes, Ended, link_shown}
use Rattle.vx_stream.specs.Calling.{LinkCall, Receive, Send, Calls, call_gave, call_took, given_by, taken_by, AreSends, OnlyTook}

-- a link gave nothing
pub link-none : (a : LinkShown) → LinkGoes a [] a
link-none a = record { left = Consumes-nil a.left; peers = Keeps-refl a.peers; receives = omega arith; sends = omega arith }

-- it gave bytes, and then more
pub link-goes : (a b c : LinkShown) (xs ys : List ℕ) → LinkGoes a xs b → LinkGoes b ys c → LinkGoes a (xs ++ ys) c
link-goes a b c xs ys before after = record {
  left = Consumes-trans a.left b.left c.left xs ys before.left after.left;
  peers = Keeps-trans a.peers b.peers c.peers before.peers after.peers;
  receives = (let first : a.receive_faults ≤ b.receive_faults = before.receives in let second : b.receive_faults ≤ c.receive_faults = after.receives in omega arith);
  sends = (let first : a.send_faults ≤ b.send_faults = before.sends in let second : b.send_faults ≤ c.send_faults = after.sends in omega arith);
}

-- it gave bytes, and then nothing
pub goes-ended : {L : Type 0} (ways : Ghosts L) (link link' : L) (a : LinkShown) (xs : List ℕ) → LinkGoes a xs (link_shown ways link) → Ended ways link link'
    → LinkGoes a xs (link_shown ways link')
goes-ended ways link link' a xs goes e =
    let r = goes.receives in
    let s = goes.sends in
    let r' = e.receives in
    let s' = e.sends in
    record {
      left = Consumes-kept a.left (ways.left link) (ways.left link') xs goes.left e.left;
      peers = Keeps-trans a.peers (ways.peers link) (ways.peers link') goes.peers e.peers;
      receives = omega arith;
      sends = omega arith;
    }

-- a link that told what it had left, and gave it up to its end, has nothing left where it tells that
pub at-end : (first old new : Option (List ℕ)) (received : List ℕ) → Consumes first old received → IsAtEnd old → Keeps old new → IfSome first (λ all. IsAtEnd new)
at-end None old new received consumes last keeps = tt
at-end (Some all) None new received consumes last keeps = absurd consumes
at-end (Some all) (Some rest) None received consumes last keeps = absurd keeps
at-end (Some all) (Some rest) (Some later) received consumes last keeps = keeps ∙ last

-- ---- calls, and more of them

-- what calls gave and took, and then more of them
pub given-append : (xs ys : List LinkCall) → given_by (xs ++ ys) ≡ given_by xs ++ given_by ys
given-append xs ys = flat_map-append call_gave xs ys

pub taken-append : (xs ys : List LinkCall) → taken_by (xs ++ ys) ≡ taken_by xs ++ taken_by ys
taken-append xs ys = flat_map-append call_took xs ys

-- sends, and then more of them
sends-append : (xs ys : List LinkCall) → AreSends xs → AreSends ys → AreSends (xs ++ ys)
sends-append [] ys before after = after
sends-append (Receive slice answer filled ∷ xs) ys before after = absurd before
sends-append (Send bytes answer ∷ xs) ys before after = sends-append xs ys before after

module _ {L : Type 0} (ways : Ghosts L) where
  -- calls, and then more of them
  pub calls-then : (a b c : L) (xs ys : List LinkCall) → Calls ways a xs b → Calls ways b ys c → Calls ways a (xs ++ ys) c
  calls-then a b c [] ys before after = subst (λ l. Calls ways l ys c) before after
  calls-then a b c (Receive slice answer filled ∷ xs) ys before after = (before.0, before.1, calls-then before.0 b c xs ys before.2 after)
  calls-then a b c (Send bytes answer ∷ xs) ys before after = (before.0, before.1, calls-then before.0 b c xs ys before.2 after)

  -- a link that wasn't called
  pub took-none : (a : L) → OnlyTook ways a [] a
  took-none a = record { calls = []; made = refl; only = tt; took = refl }

  -- it took bytes, and then more
  pub took-then : (a b c : L) (xs ys : List ℕ) → OnlyTook ways a xs b → OnlyTook ways b ys c → OnlyTook ways a (xs ++ ys) c
  took-then a b c xs ys before after = record {
    calls = before.calls ++ after.calls;
    made = calls-then a b c before.calls after.calls before.made after.made;
    only = sends-append before.calls after.calls before.only after.only;
    took = taken-append before.calls after.calls ∙ ap (λ l. l ++ taken_by after.calls) before.took ∙ ap (λ l. xs ++ l) after.took;
  }

  -- one send
  pub took-send : (a b : L) (bytes : List ℕ) (answer : WriteOut) → ways.sends a bytes answer b → OnlyTook ways a (call_took (Send bytes answer)) b
  took-send a b bytes answer call = record {
    calls = Send bytes answer ∷ [];
    made = (b, call, refl);
    only = tt;
    took = append-nil (call_took (Send bytes answer));
  }
