-- The calls that bring a bus to rest.
use Rattle.std.proofs.Common.{◌≡◌, ℕ, List, true, ap, ◌∙◌, subst, Result}
use Rattle.vx_io_traits.specs.declared.dials.DialOut.{DialOut}
use Rattle.vx_io_traits.specs.declared.dials.DialOut.TheVariants.{Up}
use Rattle.vx_client.specs.State.{ClientState, new_client, client_with_link}
use Rattle.vx_client.specs.Calls.{create, command}
use Rattle.vx_client.specs.Meaning.{made_of, len_of}
use Rattle.vx_client.specs.declared.answers.LinkMade.{LinkMade}
use Rattle.vx_client.specs.declared.answers.ClientErr.{ClientErr}
use Rattle.vx_upstream.specs.UpstreamState.{UpstreamState, Terms, opts_of}
use Rattle.vx_upstream.specs.Sending.{LinkWords, OneCall, Commands, Reaches}
use Rattle.vx_upstream.specs.Opening.{Links, Asked}
use Rattle.vx_upstream.specs.Bringing.{LinksAnew}

module _ {L : Type 0} (w : LinkWords L) (bus : UpstreamState L) where
  -- a docmd of the bus behind earlier calls is one on its link at the box
  pub asked-behind : (mid new : UpstreamState L) (cmd : ℕ) (bytes : List ℕ) (r : Result ℕ ClientErr) → mid ≡ record bus { client = mid.client }
      → Commands w cmd bytes r mid new → Asked w bus cmd bytes mid.client new.client r
  asked-behind mid new cmd bytes r is called =
      subst (λ (s : UpstreamState L). OneCall w mid.client new.client (command s.made.lid (opts_of s 0) cmd bytes) 4 len_of r) is called

  -- behind two calls the bus is as it was, but for its client
  pub rest-behind : (mid new : UpstreamState L) → mid ≡ record bus { client = mid.client } → new ≡ record mid { client = new.client }
      → new ≡ record bus { client = new.client }
  rest-behind mid new first second = second ∙ ap (λ (s : UpstreamState L). record s { client = new.client }) first

-- a box that is reached by a client that has made no call
module _ {L : Type 0} (w : LinkWords L) (link : L) (client reached : ClientState L) (made : client ≡ new_client link) (over : reached ≡ client_with_link client reached.link) where
  pub reached-new : reached ≡ new_client reached.link
  reached-new = over ∙ ap (λ (c : ClientState L). client_with_link c reached.link) made

  -- the reach is the link's
  pub reached-first : (host : List ℕ) (port : ℕ) (answer : DialOut) → Reaches w host port answer client.link reached.link → Reaches w host port answer link reached.link
  reached-first host port answer reaches = subst (λ (l : L). Reaches w host port answer l reached.link) (ap (λ (c : ClientState L). c.link) made) reaches

  -- and a create_link is the first call over it
  pub links-first : (name : List ℕ) (new : ClientState L) (r : Result LinkMade ClientErr) → OneCall w reached new (create true 0 name) 0 made_of r → Links w reached.link name new r
  links-first name new r called = subst (λ (c : ClientState L). OneCall w c new (create true 0 name) 0 made_of r) reached-new called

-- a box that is reached by a client that is renewed then
pub links-anew : {L : Type 0} (w : LinkWords L) (terms : Terms) (old reached renewed new : ClientState L) (r : Result LinkMade ClientErr)
    → Reaches w terms.host terms.port Up old.link reached.link → renewed ≡ new_client reached.link → OneCall w renewed new (create true 0 terms.name) 0 made_of r
    → LinksAnew w terms old new r
links-anew {L = L} w terms old reached renewed new r reaches is called = record {
  link = reached.link;
  reached = reaches;
  called = subst (λ (c : ClientState L). OneCall w c new (create true 0 terms.name) 0 made_of r) is called;
}
