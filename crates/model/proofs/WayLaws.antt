-- Demand 3, proved of any calls that meet `Calls`: a way answers the rule over the set of its events, or 8.
use mathlib.Core.Path.{◌≡◌, refl, sym, ◌∙◌, ap}
use mathlib.Core.Logic.{⊎_elim}
use mathlib.Core.Bool.{Bool, true, false}
use mathlib.Core.List.{List, [], ◌∷◌, ◌++◌, map}
use mathlib.Core.List.Memᴰ
use Prim.Native.Nat.{ℕ, zero, suc, ◌+◌}
use native.Mathlib.Nat.{zero-add}
use lib.ListN.{length, get_or}
use Rattle.model.specs.Order.{Order}
use Rattle.model.specs.Sets.{Within, itself, up_from, up_to}
use Rattle.model.specs.Rule.{TypeView, View, Dossier, rule, combine}
use Rattle.model.specs.Limits.{Limits, fits}
use Rattle.model.specs.Opening.{finds, Opened, conflict_at, opening}
use Rattle.model.specs.Ways.{Way, leaf, node, Reply, wrote, said, events, buffers, event_set, next, calls, limited, batch}
use Rattle.model.proofs.WayClaims.{Each, Has, Calls, answer, Demand3, HashCalls, WholeDemand3, first_events}
use Rattle.model.proofs.SetLaws.{canon-in, canon-of}
use Rattle.model.proofs.PartLaws.{map-append, map-get_d, up_from-last}
use Rattle.model.proofs.RuleLaws.{rule-append, rule-same}
use Rattle.model.proofs.LimitLaws.{fits-within}
use Rattle.model.proofs.ClashLaws.{opening-exact, opening-no-conflict}

pub has-event : {Event Buffer : Type 0} (w : Way Event Buffer) → Has (events w)
unfolding events
has-event (leaf b e) = (e, Memᴰ.head refl)
has-event (node b l r) = let (e, m) = has-event l in (e, Memᴰ.append_left (events r) m)

-- what question 8 leaves
module _ {D : Type 0} (l : Limits) (t : TypeView) (encode : Dossier → D) (d : Dossier) where
  limited-said : (n : ℕ) → limited l t encode d ≡ said n → (fits l t d ≡ false) × (n ≡ 8)
  unfolding limited
  limited-said n h = go (fits l t d) refl
    where
      go : (x : Bool) → fits l t d ≡ x → (fits l t d ≡ false) × (n ≡ 8)
      go true p = (cc, cc)
      go false p = (p, cc)

  limited-wrote : (b : D) → limited l t encode d ≡ wrote b → (fits l t d ≡ true) × (encode d ≡ b)
  unfolding limited
  limited-wrote b h = go (fits l t d) refl
    where
      go : (x : Bool) → fits l t d ≡ x → (fits l t d ≡ true) × (encode d ≡ b)
      go true p = (p, cc)
      go false p = (cc, cc)

module _
    {Event : Type 0} (l : Limits) (t : View Event) {Buffer D O : Type 0} {Room : Buffer → Type 0} {S : Event → Type 0}
    (c : Calls l t Buffer D O Room S)
  where
    abbrev of-rule : List Event → Reply D
    of-rule es = limited l t.type c.encode (rule t es)

    meet :
        (b : Buffer) (es fs : List Event) → Room b → Has es → Has fs → Each S es → Each S fs →
        next (c.join b) (of-rule es) (of-rule fs) ≡ of-rule (es ++ fs)
    unfolding next limited
    meet b es fs room he hf se sf = go (fits l t.type (rule t es)) (fits l t.type (rule t fs)) (fits l t.type (rule t (es ++ fs))) refl refl refl
      where
        go :
            (x y z : Bool) → fits l t.type (rule t es) ≡ x → fits l t.type (rule t fs) ≡ y → fits l t.type (rule t (es ++ fs)) ≡ z →
            next (c.join b) (of-rule es) (of-rule fs) ≡ of-rule (es ++ fs)
        go true true z p q r = rw (p, q) (rw rule-append at (c.two b es fs room he hf se sf p q))
        go false y false p q r = rw (p, r)
        go true false false p q r = rw (p, q, r)
        go false y true p q r = cc (fits-within l t es (es ++ fs) (λ a m. Memᴰ.append_left fs m) r)
        go true false true p q r = cc (fits-within l t fs (es ++ fs) (λ a m. Memᴰ.append_right es m) r)

    -- the answer of a way
    pub way : (w : Way Event Buffer) → Each S (events w) → Each Room (buffers w) → answer c w ≡ of-rule (events w)
    unfolding calls events buffers
    way (leaf b e) h room =
        unfold limited in
        (rw (c.fit e (h e (Memᴰ.head refl))) (c.one b e (room b (Memᴰ.head refl)) (h e (Memᴰ.head refl))))
    way (node b x y) h room =
        let hx : Each S (events x) = λ e m. h e (Memᴰ.append_left (events y) m) in
        let hy : Each S (events y) = λ e m. h e (Memᴰ.append_right (events x) m) in
        rw (
          way x hx (λ r m. room r (Memᴰ.tail (Memᴰ.append_left (buffers y) m))),
          way y hy (λ r m. room r (Memᴰ.tail (Memᴰ.append_right (buffers x) m))),
        )
        (meet b (events x) (events y) (room b (Memᴰ.head refl)) (has-event x) (has-event y) hx hy)

    module _ (distinct : Order Event) (w : Way Event Buffer) (h : Each S (events w)) (room : Each Room (buffers w)) where
      of-events : Within (events w) (event_set distinct w)
      unfolding event_set
      of-events = canon-in distinct (events w)

      in-events : Within (event_set distinct w) (events w)
      unfolding event_set
      in-events = canon-of distinct (events w)

      set-rule : rule t (events w) ≡ rule t (event_set distinct w)
      set-rule = rule-same t (events w) (event_set distinct w) (of-events, in-events)

      set-answer : answer c w ≡ of-rule (event_set distinct w)
      set-answer = way w h room ∙ ap (limited l t.type c.encode) set-rule

      opens-to :
          (b : Buffer) (d : D) → Room b → answer c w ≡ wrote d →
          c.opens b d ≡ c.shown (rule t (event_set distinct w)) (opening t.type (rule t (event_set distinct w)))
      opens-to b d r e =
          let (f, q) = limited-wrote l t.type c.encode (rule t (events w)) d (sym (way w h room) ∙ e) in
          rw (← q, ← set-rule) (c.opened b (events w) r (has-event w) h f)

      -- a conflict of the answer is one of the rule over the events
      same-conflict :
          (b : Buffer) (d : D) → Room b → answer c w ≡ wrote d → (v p : ℕ) →
          c.opens b d ≡ c.shown (rule t (event_set distinct w)) (finds (conflict_at v p)) →
          opening t.type (rule t (events w)) ≡ finds (conflict_at v p)
      same-conflict b d r e v p q =
          rw set-rule (c.tells (rule t (event_set distinct w)) (opening t.type (rule t (event_set distinct w))) v p (sym (opens-to b d r e) ∙ q))

      conflict-shown :
          (b : Buffer) (d : D) → Room b → answer c w ≡ wrote d → (v p : ℕ) → opening t.type (rule t (events w)) ≡ finds (conflict_at v p) →
          c.opens b d ≡ c.shown (rule t (event_set distinct w)) (finds (conflict_at v p))
      conflict-shown b d r e v p q = opens-to b d r e ∙ ap (c.shown (rule t (event_set distinct w))) (rw set-rule at q)

      pub demand3 : Demand3 c distinct w
      demand3 = record {
        result = set-answer;
        refused = (
          λ e. (limited-said l t.type c.encode (rule t (event_set distinct w)) 8 (sym set-answer ∙ e)).0,
          λ e. set-answer ∙ unfold limited in (rw e),
        );
        only_eight = λ n e. (limited-said l t.type c.encode (rule t (events w)) n (sym (way w h room) ∙ e)).1;
        however =
            λ x r s. way w h room ∙ (ap (limited l t.type c.encode) (rule-same t (events w) (events x) s) ∙ sym (way x (λ e m. h e (s.1 e m)) r));
        opened = opens-to;
        conflicts =
            λ b d r e v p. (
              λ q. (opening-exact t (events w) v p).0 (same-conflict b d r e v p q),
              λ k. conflict-shown b d r e v p ((opening-exact t (events w) v p).1 k),
            );
        agrees = λ b d r e. (
          λ k. (opening-no-conflict t (events w)).0 (λ v p q. k v p (conflict-shown b d r e v p q)),
          λ k v p q. (opening-no-conflict t (events w)).1 k v p (same-conflict b d r e v p q),
        );
      }

      pub whole-demand3 : {H : Type 0} {HashRoom : Buffer → Type 0} (k : HashCalls c H HashRoom) → WholeDemand3 c k distinct w
      whole-demand3 k = record {
        dossier = demand3;
        hashes = λ b a d ss e r s o m i.
            let (f, q) = limited-wrote l t.type c.encode (rule t (event_set distinct w)) d (sym set-answer ∙ o) in (
              ap (k.of_merged a) (opens-to b d r o ∙ ap (c.shown (rule t (event_set distinct w))) m)
                  ∙ k.merged-hash a (event_set distinct w) ss e s (λ x j. h x (in-events x j)) (of-events e i) f m,
              k.event-hash a e s (h e i),
            );
      }

-- the calls on values, whatever the buffers: what is asked of calls can be had
unfoldable pub on_values :
    {Event : Type 0} (l : Limits) (t : View Event) (Buffer : Type 0) →
    Calls l t Buffer Dossier Opened (λ b. Unit {0}) (λ e. fits l t.type (rule t (e ∷ [])) ≡ true)
on_values l t Buffer = record {
  encode = itself;
  check = λ b e. wrote (rule t (e ∷ []));
  join = λ b x y. limited l t.type itself (combine t.type x y);
  opens = λ b d. opening t.type d;
  shown = λ d o. o;
  one = λ b e r s. refl;
  fit = λ e s. s;
  two = λ b es fs r he hf se sf p q. refl;
  opened = λ b es r he se p. refl;
  tells = λ d o v p e. e;
}

-- a batch is a way over its events
module _ {Event Buffer : Type 0} (at : ℕ → Event) (checked combined : ℕ → Buffer) where
  pub batch-events : (n : ℕ) → events (batch at checked combined n) ≡ first_events at n
  unfolding events batch first_events
  batch-events zero = refl
  batch-events (suc n) = rw (batch-events n)

  pub batch-room :
      (Room : Buffer → Type 0) → ((k : ℕ) → Room (checked k)) → ((k : ℕ) → Room (combined k)) → (n : ℕ) →
      Each Room (buffers (batch at checked combined n))
  unfolding buffers batch
  batch-room Room f g zero b m = rw (Memᴰ.eq_of_singleton m) (f zero)
  batch-room Room f g (suc n) b m = ⊎_elim
      (λ q. rw q (g (suc n)))
      (λ k. ⊎_elim
      (batch-room Room f g n b)
      (λ i. let q : b ≡ checked (suc n) = Memᴰ.eq_of_singleton i in rw q (f (suc n)))
      (Memᴰ.append_cases (buffers (batch at checked combined n)) k))
      (Memᴰ.cases_cons m)

-- its events, as those of a list
upto-map : {Event : Type 0} (at : ℕ → Event) (n : ℕ) → first_events at n ≡ map at (up_to (suc n))
unfolding first_events up_to
upto-map at zero = unfold up_from in refl
upto-map at (suc n) = rw (upto-map at n, up_from-last 0 (suc n), map-append at (up_from 0 (suc n)) ((0 + suc n) ∷ []), zero-add)

pub upto-list : {Event : Type 0} (es : List Event) (d : Event) (n : ℕ) → length es ≡ suc n → first_events (λ i. get_or es i d) n ≡ es
upto-list es d n h = upto-map (λ i. get_or es i d) n ∙ map-get_d es d (suc n) h

-- the answer of a batch: question 8 "of all", and else the rule over its events
pub batch-answer :
    {Event : Type 0} (l : Limits) (t : View Event) {Buffer D O : Type 0} {Room : Buffer → Type 0} {S : Event → Type 0}
    (c : Calls l t Buffer D O Room S) (at : ℕ → Event) (checked combined : ℕ → Buffer) (n : ℕ) →
    Each S (first_events at n) → ((k : ℕ) → Room (checked k)) → ((k : ℕ) → Room (combined k)) →
    answer c (batch at checked combined n) ≡ limited l t.type c.encode (rule t (first_events at n))
batch-answer l t {Room} {S} c at checked combined n h f g =
    let all = batch-events at checked combined n in
    way l t c (batch at checked combined n) (rw all h) (batch-room at checked combined Room f g n)
    ∙ ap (λ (es : List _). limited l t.type c.encode (rule t es)) all
