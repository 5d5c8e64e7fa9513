-- Terminals that went, one after the other.
use Rattle.std.proofs.Common.{◌≡◌, ◌∙◌, ℕ, List, [], ◌∷◌, ◌++◌, Some, Ok, refl, sym, ap, subst, append_assoc}
use Rattle.cli_hosts.specs.declared.settling.Settled.{Settled as Outcome}
use Rattle.cli_hosts.specs.Hosts.{Told}
use Rattle.session_hub.specs.Hubs.{Room}
use Rattle.host_server.specs.declared.asked.Asked.{Asked}
use Rattle.host_server.specs.declared.tally.Tally.{Tally}
use Rattle.host_server.specs.Tallies.{counted, tally_after}
use Rattle.host_server.specs.Waiting.{Waiting, added}
use Rattle.host_server.specs.Serving.{Serving, AreFew, Keeps, Went, texts_of, outcomes_of, AreTold, TellsOf, Telling, Settled, Goes, all_added}

pub tally_more : (tally : Tally) (first others : List Went) → tally_after tally (outcomes_of (first ++ others)) ≡ tally_after (tally_after tally (outcomes_of first)) (outcomes_of others)
tally_more tally [] others = refl
tally_more tally (one ∷ first) others = tally_more (counted tally one.outcome) first others

added_more : (waiting : Waiting) (first others : List Went) → all_added waiting (first ++ others) ≡ all_added (all_added waiting first) others
added_more waiting [] others = refl
added_more waiting (one ∷ first) others = added_more (added waiting one.text) first others

pub texts_more : (first others : List Went) → texts_of (first ++ others) ≡ texts_of first ++ texts_of others
texts_more [] others = refl
texts_more (one ∷ first) others = ap (λ t. one.text ++ t) (texts_more first others) ∙ sym (append_assoc one.text (texts_of first) (texts_of others))

pub told_more : (IsTold : Told) (first others : List Went) → AreTold IsTold first → AreTold IsTold others → AreTold IsTold (first ++ others)
told_more IsTold [] others a b = b
told_more IsTold (one ∷ first) others a b = (a.0, told_more IsTold first others a.1 b)

-- what is served is the same
pub told_on : {C : Type 0} (IsTold : Telling C) (content other : C) (went : List Went) → other ≡ content → AreTold (IsTold other) went → AreTold (IsTold content) went
told_on IsTold content other went same told = subst (λ c. AreTold (IsTold c) went) same told

-- no more came than may, over two parts
pub few_then : {H S : Type 0} (room : H → Room S) (asked next : Asked) (old mid new : H) → next ≡ asked → (AreFew room asked old → AreFew room asked mid)
    → (AreFew room next mid → AreFew room next new) → AreFew room asked old → AreFew room asked new
few_then room asked next old mid new same a b held =
    subst (λ q. AreFew room q new) same (b (subst (λ q. AreFew room q mid) (sym same) (a held)))

abbrev pub settled_none : {H C S : Type 0} (content : H → C) (room : H → Room S) (IsTold : Telling C) (server : Serving H) → Settled content room IsTold server server
settled_none content room IsTold server = record { went = []; told = tt; served = refl; asked = refl; address = refl; tally = refl; few = λ held. held }

abbrev pub settled_then : {H C S : Type 0} (content : H → C) (room : H → Room S) (IsTold : Telling C) (old mid new : Serving H)
    → Settled content room IsTold old mid → Settled content room IsTold mid new → Settled content room IsTold old new
settled_then content room IsTold old mid new a b = record {
  went = a.went ++ b.went;
  told = told_more (IsTold (content old.hosts)) a.went b.went a.told (told_on IsTold (content old.hosts) (content mid.hosts) b.went a.served b.told);
  served = b.served ∙ a.served;
  asked = b.asked ∙ a.asked;
  address = b.address ∙ a.address;
  tally = b.tally ∙ ap (λ t. tally_after t (outcomes_of b.went)) a.tally ∙ sym (tally_more old.tally a.went b.went);
  few = few_then room old.asked mid.asked old.hosts mid.hosts new.hosts a.asked a.few b.few;
}

-- a server that keeps what it serves
abbrev pub settled_kept : {H C S : Type 0} (content : H → C) (room : H → Room S) (IsTold : Telling C) (old mid new : Serving H)
    → Settled content room IsTold old mid → Keeps content room mid new → Settled content room IsTold old new
settled_kept content room IsTold old mid new a same = record {
  went = a.went;
  told = a.told;
  served = same.served ∙ a.served;
  asked = same.asked ∙ a.asked;
  address = same.address ∙ a.address;
  tally = same.tally ∙ a.tally;
  few = few_then room old.asked mid.asked old.hosts mid.hosts new.hosts a.asked a.few same.few;
}

pub keeps_then : {H C S : Type 0} (content : H → C) (room : H → Room S) (old mid new : Serving H) → Keeps content room old mid → Keeps content room mid new → Keeps content room old new
keeps_then content room old mid new a b =
    record {
      served = b.served ∙ a.served;
      asked = b.asked ∙ a.asked;
      address = b.address ∙ a.address;
      tally = b.tally ∙ a.tally;
      few = few_then room old.asked mid.asked old.hosts mid.hosts new.hosts a.asked a.few b.few;
    }

-- ---- with the texts that wait

pub goes_none : {H C S : Type 0} (content : H → C) (room : H → Room S) (IsTold : Telling C) (server : Serving H) (waiting : Waiting) → Goes content room IsTold server server waiting waiting
goes_none content room IsTold server waiting = record { settled = settled_none content room IsTold server; waits = refl }

pub goes_then : {H C S : Type 0} (content : H → C) (room : H → Room S) (IsTold : Telling C) (old mid new : Serving H) (waiting between later : Waiting)
    → Goes content room IsTold old mid waiting between → Goes content room IsTold mid new between later → Goes content room IsTold old new waiting later
goes_then content room IsTold old mid new waiting between later a b = record {
  settled = settled_then content room IsTold old mid new a.settled b.settled;
  waits = b.waits ∙ ap (λ w. all_added w b.settled.went) a.waits ∙ sym (added_more waiting a.settled.went b.settled.went);
}

pub goes_kept : {H C S : Type 0} (content : H → C) (room : H → Room S) (IsTold : Telling C) (old mid new : Serving H) (waiting later : Waiting)
    → Goes content room IsTold old mid waiting later → Keeps content room mid new → Goes content room IsTold old new waiting later
goes_kept content room IsTold old mid new waiting later a same = record { settled = settled_kept content room IsTold old mid new a.settled same; waits = a.waits }

-- before anything went
pub goes_first : {H C S : Type 0} (content : H → C) (room : H → Room S) (IsTold : Telling C) (old new : Serving H) (waiting : Waiting)
    → Keeps content room old new → Goes content room IsTold old new waiting waiting
goes_first content room IsTold old new waiting same = goes_kept content room IsTold old old new waiting waiting (goes_none content room IsTold old waiting) same

-- one terminal
pub goes_one : {H C S : Type 0} (content : H → C) (room : H → Room S) (IsTold : Telling C) (old mid new : Serving H) (waiting later : Waiting) (outcome : Outcome) (text : List ℕ)
    → Keeps content room old mid → TellsOf (IsTold (content old.hosts)) outcome text → later ≡ added waiting text → new ≡ record mid { tally = counted mid.tally outcome }
    → Goes content room IsTold old new waiting later
goes_one content room IsTold old mid new waiting later outcome text same tells waits is = subst (λ s. Goes content room IsTold old s waiting later) (sym is) (record {
  settled = record {
    went = record { number = tells.0; outcome = outcome; text = text } ∷ [];
    told = (tells.1, tt);
    served = same.served;
    asked = same.asked;
    address = same.address;
    tally = ap (λ t. counted t outcome) same.tally;
    few = same.few;
  };
  waits = waits;
})
