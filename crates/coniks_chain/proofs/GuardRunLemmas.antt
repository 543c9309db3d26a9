-- What the records of a run have signed is one chain.
use Rattle.std.proofs.Common.{◌≡◌, ◌≢◌, ℕ, zero, suc, ◌+◌, ◌-◌, ◌<◌, ◌≤◌, List, [], ◌∷◌, ◌++◌, length, length-append, Bool, true, false, cond, Option, Some, None, IfSome, refl, sym, ap, subst, ◌∙◌, ◌⊎◌, inl, inr, ⊎_elim, arith, get_or, take}
use Rattle.std.specs.List.{filter, slice_get}
use Rattle.std.specs.Option.{option_map}
use Rattle.std.proofs.lemmas.List.{append_assoc, append-nil, take_all, take_more}
use Rattle.std.proofs.lemmas.Option.{slice_get_within, slice_get-get_or, same_Some}
use Rattle.std.proofs.lemmas.Bool.{cases_lt}
use Rattle.coniks_chain.specs.Chain.{Follows, GoodChain, auditor_after, before_at}
use Rattle.coniks_chain.specs.Entries.{body_bytes, signed}
use Rattle.coniks_chain.specs.Evidence.{Begins, HasBodyOf, HasPolicy}
use Rattle.coniks_chain.specs.Guard.{Guarded, ClosesTo, Has, IsAllowed, IsLast, Settles, empty, last_epoch, rivals, has_same_before, ask_settled, opens, sign_settled, mends, stores, abandon_settled, drops, this_one, other_one, had_it, begins}
use Rattle.coniks_chain.specs.GuardRun.{GuardLaw, GuardedNeverConvict, IsAbandoned, IsBegun, IsReturned, IsRun, IsSigned, Moves, last_of, asks, signs, abandons, adopts, anew, known}
use Rattle.coniks_chain.specs.declared.auditor.AuditFault.TheVariants.{Version, VersionBack, FirstEpoch, NotLater, PreviousEpoch, PreviousLink, NonceChanged}
use Rattle.coniks_chain.specs.declared.auditor.AuditorState.{AuditorState}
use Rattle.coniks_chain.specs.declared.entry.Body.{Body}
use Rattle.coniks_chain.specs.declared.entry.Entry.{Entry}
use Rattle.coniks_chain.specs.declared.entry.Signature.{Signature}
use Rattle.coniks_chain.proofs.ChainLemmas.{before_at-push, good_push, row}
use Rattle.coniks_chain.proofs.ClientLemmas.{increasing}
use Rattle.coniks_chain.proofs.EvidenceLemmas.{one_chain, well_formed}

-- the beginning and the end of a longer list
pub get-front : {A : Type 0} (xs ys : List A) (k : ℕ) → k < length xs → slice_get (xs ++ ys) k ≡ slice_get xs k
get-front [] ys k less = absurd (omega arith)
get-front (x ∷ xs) ys zero less = refl
get-front (x ∷ xs) ys (suc k) less = get-front xs ys k (omega arith)

pub get-last : {A : Type 0} (xs : List A) (x : A) → slice_get (xs ++ x ∷ []) (length xs) ≡ Some x
get-last [] x = refl
get-last (y ∷ xs) x = get-last xs x

-- an element of a longer list is one of the list, or the new one
which : {A : Type 0} (xs : List A) (x y : A) (k : ℕ) → slice_get (xs ++ x ∷ []) k ≡ Some y → (slice_get xs k ≡ Some y) ⊎ (x ≡ y)
which xs x y k at = ⊎_elim
    (λ (less : k < length xs). inl (sym (get-front xs (x ∷ []) k less) ∙ at))
    (λ (le : length xs ≤ k).
    let within = slice_get_within (xs ++ x ∷ []) k y at in
    let here : k ≡ length xs = omega (arith, length-append xs (x ∷ [])) in
    inr (same_Some x y (sym (get-last xs x) ∙ ap (slice_get (xs ++ x ∷ [])) (sym here) ∙ at)))
    (cases_lt k (length xs))

front-of : {A : Type 0} (xs : List A) (x y : A) (k : ℕ) → slice_get xs k ≡ Some y → slice_get (xs ++ x ∷ []) k ≡ Some y
front-of xs x y k at = get-front xs (x ∷ []) k (slice_get_within xs k y at) ∙ at

none-in-nothing : {A : Type 0} (k : ℕ) (x : A) → slice_get [] k ≡ Some x → ⊥
none-in-nothing k x at = let within = slice_get_within [] k x at in omega arith

-- a filtered list has only elements of the list
has-more : (x : Body) (xs : List Body) (c : Body) → Has xs c → Has (x ∷ xs) c
has-more x xs c has = (suc has.0, has.1)

has-either : (b : Bool) (x c : Body) (xs ys : List Body) (k : ℕ) → slice_get (cond b (x ∷ ys) ys) k ≡ Some c → (Has ys c → Has xs c) → Has (x ∷ xs) c
has-either true x c xs ys zero at more = (0, at)
has-either true x c xs ys (suc k) at more = has-more x xs c (more (k, at))
has-either false x c xs ys k at more = has-more x xs c (more (k, at))

has-filtered : (p : Body → Bool) (xs : List Body) (c : Body) → Has (filter p xs) c → Has xs c
has-filtered p [] c has = has
has-filtered p (x ∷ xs) c has = has-either (p x) x c xs (filter p xs) has.0 has.1 (has-filtered p xs c)

-- the last of a longer list, and a list that has a last one
last-push : (xs : List Entry) (e : Entry) → last_of (xs ++ e ∷ []) ≡ Some e
last-push xs e =
    let place : length (xs ++ e ∷ []) - 1 ≡ length xs = omega (arith, length-append xs (e ∷ [])) in
    ap (slice_get (xs ++ e ∷ [])) place ∙ get-last xs e

split-last : (xs : List Entry) (e : Entry) → last_of xs ≡ Some e → xs ≡ take (length xs - 1) xs ++ e ∷ []
split-last xs e is =
    let n : ℕ = length xs - 1 in
    let within : n < length xs = slice_get_within xs n e is in
    let here : get_or xs n e ≡ e = same_Some (get_or xs n e) e (sym (slice_get-get_or xs n e within) ∙ is) in
    sym (take_all (n + 1) xs (omega arith)) ∙ take_more xs n e within ∙ ap (λ x. take n xs ++ x ∷ []) here

last-body : (chain : List Entry) (e : Entry) → last_of chain ≡ Some e → HasBodyOf chain e
last-body chain e is = record { place = length chain - 1; member = e; there = is; same = refl }

-- no entry of a list has this body
abbrev NotOf : List Entry → Body → Type 0
NotOf entries body = (k : ℕ) (e : Entry) → slice_get entries k ≡ Some e → e.body ≢ body

abbrev policy_in : Option Entry → List ℕ
policy_in None = []
policy_in (Some e) = e.body.policy

-- a body that may be signed next
record Fits (hash : List ℕ → List ℕ) (verdict : List ℕ → List ℕ → Bool) (chain : List Entry) (last : Option Entry) (b : Body) : Type 0 where
  follows : (signature : Signature) → verdict (body_bytes b) signature.0 ≡ true → Follows verdict (before_at hash None chain (length chain)) (signed b signature)
  prev : b.t_prev ≡ last_epoch last
  later : b.t_prev < b.t
  policy : IfSome last (λ l. b.policy ≡ l.body.policy)

-- what holds of a record, and of the chain that was signed when it was stored
record Inv (hash : List ℕ → List ℕ) (verdict : List ℕ → List ℕ → Bool) (chain : List Entry) (s : Guarded) : Type 0 where
  good : GoodChain hash verdict chain
  bounded : (k : ℕ) (e : Entry) → slice_get chain k ≡ Some e → (e.body.t_prev < e.body.t) × (e.body.t ≤ last_epoch s.signed)
  policy : HasPolicy (policy_in s.signed) chain
  last : s.signed ≡ last_of chain
  asked : (b : Body) → s.asked ≡ Some b → Fits hash verdict chain s.signed b
  abandoned : (b : Body) → Has s.abandoned b → (b.t_prev ≤ last_epoch s.signed) × NotOf chain b

-- a body that was not signed and won't be
record Barred (chain : List Entry) (s : Guarded) (b : Body) : Type 0 where
  not : NotOf chain b
  why : (b.t_prev < last_epoch s.signed) ⊎ Has s.abandoned b

-- what one step does to the chain
record Moved (hash : List ℕ → List ℕ) (verdict : List ℕ → List ℕ → Bool) (chain : List Entry) (s next : Guarded) : Type 0 where
  after : List Entry
  inv : Inv hash verdict after next
  keeps : (b : Body) → Barred chain s b → Barred after next b
  holds : (e : Entry) → HasBodyOf chain e → HasBodyOf after e
  only : (e : Entry) → HasBodyOf after e → HasBodyOf chain e ⊎ IsLast next.signed e.body
  begun : (past : List Entry) → Begins past chain → Begins past after

-- an older entry has the policy of the next body
old-policy : (o : Option Entry) (x : Entry) (b : Body) → IfSome o (λ l. b.policy ≡ l.body.policy) → x.body.t_prev < x.body.t → x.body.t ≤ last_epoch o
    → x.body.policy ≡ policy_in o → x.body.policy ≡ b.policy
old-policy None x b same later bound is = absurd (omega arith)
old-policy (Some d) x b same later bound is = is ∙ sym same

-- another last entry with the same body
module _ (init : List Entry) (e f : Entry) (same : e.body ≡ f.body) where
  at-swap : (k : ℕ) (b : Entry) → slice_get (init ++ f ∷ []) k ≡ Some b → (a : Entry) × (slice_get (init ++ e ∷ []) k ≡ Some a) × (a.body ≡ b.body)
  at-swap k b at = ⊎_elim
      (λ (less : k < length init). (b, get-front init (e ∷ []) k less ∙ sym (get-front init (f ∷ []) k less) ∙ at, refl))
      (λ (le : length init ≤ k).
      let within = slice_get_within (init ++ f ∷ []) k b at in
      let here : k ≡ length init = omega (arith, length-append init (f ∷ [])) in
      let is : f ≡ b = same_Some f b (sym (get-last init f) ∙ ap (slice_get (init ++ f ∷ [])) (sym here) ∙ at) in
      (e, ap (slice_get (init ++ e ∷ [])) here ∙ get-last init e, same ∙ ap (λ (x : Entry). x.body) is))
      (cases_lt k (length init))

  not-swap : (b : Body) → NotOf (init ++ e ∷ []) b → NotOf (init ++ f ∷ []) b
  not-swap b not = λ k x at is. let found = at-swap k x at in not k found.0 found.1 (found.2 ∙ is)

  has-swap : (x : Entry) → HasBodyOf (init ++ f ∷ []) x → HasBodyOf (init ++ e ∷ []) x
  has-swap x has =
      let found = at-swap has.place has.member has.there in
      record { place = has.place; member = found.0; there = found.1; same = has.same ∙ sym found.2 }

  begins-swap : (past : List Entry) → Begins past (init ++ e ∷ []) → Begins past (init ++ f ∷ [])
  begins-swap past one = record {
    shorter = omega (arith, one.shorter, length-append init (e ∷ []), length-append init (f ∷ []));
    same = λ k a b less at_a at_b. let found = at-swap k b at_b in one.same k a found.0 less at_a found.1 ∙ found.2;
  }

begins-push : (past chain : List Entry) (e : Entry) → Begins past chain → Begins past (chain ++ e ∷ [])
begins-push past chain e one = record {
  shorter = omega (arith, one.shorter, length-append chain (e ∷ []));
  same = λ k a b less at_a at_b.
      let within : k < length chain = omega (arith, less, one.shorter) in
      one.same k a b less at_a (sym (get-front chain (e ∷ []) k within) ∙ at_b);
}

begins-itself : (past : List Entry) → Begins past past
begins-itself past = record {
  shorter = omega arith;
  same = λ k a b less at_a at_b. ap (λ (x : Entry). x.body) (same_Some a b (sym at_a ∙ at_b));
}

has-front : (chain : List Entry) (e x : Entry) → HasBodyOf chain x → HasBodyOf (chain ++ e ∷ []) x
has-front chain e x has = record { place = has.place; member = has.member; there = front-of chain e has.member has.place has.there; same = has.same }

has-push : (chain : List Entry) (e x : Entry) → HasBodyOf (chain ++ e ∷ []) x → HasBodyOf chain x ⊎ (e.body ≡ x.body)
has-push chain e x has = ⊎_elim
    (λ (old : slice_get chain has.place ≡ Some has.member). inl (record { place = has.place; member = has.member; there = old; same = has.same }))
    (λ (new : e ≡ has.member). inr (ap (λ (y : Entry). y.body) new ∙ sym has.same))
    (which chain e has.member has.place has.there)

module _ (hash : List ℕ → List ℕ) (verdict : List ℕ → List ℕ → Bool) where
  before-last : (chain : List Entry) → before_at hash None chain (length chain) ≡ option_map (auditor_after hash) (last_of chain)
  before-last [] = refl
  before-last (x ∷ xs) =
      let place : length xs ≡ length (x ∷ xs) - 1 = omega arith in
      ap (λ n. option_map (auditor_after hash) (slice_get (x ∷ xs) n)) place

  -- a body that the key may sign follows
  follows-last : (may : Bool) (o : Option Entry) (asked : Option Body) (abandoned : List Body) (b : Body) (signature : Signature)
      → IsAllowed hash may (record { signed = o; asked = asked; abandoned = abandoned }) b → verdict (body_bytes b) signature.0 ≡ true
      → Follows verdict (option_map (auditor_after hash) o) (signed b signature)
  follows-last may None asked abandoned b signature ok valid =
      let formed = ok.rows.0 in
      let start = ok.rows.1.0 in
      let positive : 0 < b.t = omega (arith, formed.later) in
      record { rows = (formed.version, (tt, (positive, (tt, (start, (formed.begins start, (tt, (valid, tt)))))))) }
  follows-last may (Some d) asked abandoned b signature ok valid =
      let formed = ok.rows.0 in
      let behind = ok.rows.1.1.1.1.1.0 in
      let ahead = ok.rows.1.1.1.1.1.1.0 in
      let link = ok.rows.1.1.1.1.1.1.1.0 in
      let version = ok.rows.1.1.1.1.1.1.1.1.0 in
      let nonce = ok.rows.1.1.1.1.1.1.1.1.1.0 in
      let later : d.body.t < b.t = omega (arith, formed.later, behind) in
      let prev : b.t_prev ≡ d.body.t = omega (arith, behind, ahead) in
      record { rows = (formed.version, (version, (tt, (later, (prev, (link, (nonce, (valid, tt)))))))) }

  prev-last : (may : Bool) (o : Option Entry) (asked : Option Body) (abandoned : List Body) (b : Body)
      → IsAllowed hash may (record { signed = o; asked = asked; abandoned = abandoned }) b → b.t_prev ≡ last_epoch o
  prev-last may None asked abandoned b ok = ok.rows.1.0
  prev-last may (Some d) asked abandoned b ok = omega (arith, ok.rows.1.1.1.1.1.0, ok.rows.1.1.1.1.1.1.0)

  fits : (may : Bool) (chain : List Entry) (s : Guarded) (b : Body) → s.signed ≡ last_of chain → IsAllowed hash may s b → Fits hash verdict chain s.signed b
  fits may chain s b last ok = record {
    follows = λ signature valid. subst (λ before. Follows verdict before (signed b signature))
        (ap (option_map (auditor_after hash)) last ∙ sym (before-last chain)) (follows-last may s.signed s.asked s.abandoned b signature ok valid);
    prev = prev-last may s.signed s.asked s.abandoned b ok;
    later = ok.rows.0.later;
    policy = ok.rows.1.1.1.1.0;
  }

  -- the chain stays
  stays : (chain : List Entry) (s next : Guarded) → next.signed ≡ s.signed → Inv hash verdict chain next → ((b : Body) → Barred chain s b → Barred chain next b) → Moved hash verdict chain s next
  stays chain s next same inv keeps = record { after = chain; inv = inv; keeps = keeps; holds = λ e has. has; only = λ e has. inl has; begun = λ past one. one }

  unmoved : (chain : List Entry) (s next : Guarded) → Inv hash verdict chain s → next ≡ s → Moved hash verdict chain s next
  unmoved chain s next inv is = subst (λ (x : Guarded). Moved hash verdict chain s x) (sym is) (stays chain s s refl inv (λ b bar. bar))

  -- a body is open
  opened : (may : Bool) (chain : List Entry) (s : Guarded) (b : Body) → Inv hash verdict chain s → IsAllowed hash may s b
      → Moved hash verdict chain s (record { signed = s.signed; asked = Some b; abandoned = s.abandoned })
  opened may chain s b inv ok = stays chain s (record { signed = s.signed; asked = Some b; abandoned = s.abandoned }) refl
      (record {
        good = inv.good;
        bounded = inv.bounded;
        policy = inv.policy;
        last = inv.last;
        asked = λ c some. subst (λ (x : Body). Fits hash verdict chain s.signed x) (same_Some b c some) (fits may chain s b inv.last ok);
        abandoned = inv.abandoned;
      })
      (λ c bar. record { not = bar.not; why = bar.why })

  -- one entry more is signed
  pushed : (chain : List Entry) (s : Guarded) (b : Body) (signature : Signature) → Inv hash verdict chain s → Fits hash verdict chain s.signed b → (¬ Settles s b)
      → verdict (body_bytes b) signature.0 ≡ true
      → Inv hash verdict (chain ++ signed b signature ∷ []) (record { signed = Some (signed b signature); asked = None; abandoned = rivals b s.abandoned })
  pushed chain s b signature inv fit unsettled valid =
      let e : Entry = signed b signature in
      let prev = fit.prev in
      let later = fit.later in
      record {
        good = good_push hash verdict chain e inv.good (fit.follows signature valid);
        bounded = λ k x at. ⊎_elim
            (λ (old : slice_get chain k ≡ Some x). let bounds = inv.bounded k x old in (bounds.0, omega (arith, bounds.1, prev, later)))
            (λ (new : e ≡ x). subst (λ (y : Entry). (y.body.t_prev < y.body.t) × (y.body.t ≤ b.t)) new (later, omega arith))
            (which chain e x k at);
        policy = λ k x at. ⊎_elim
            (λ (old : slice_get chain k ≡ Some x).
            let bounds = inv.bounded k x old in
            old-policy s.signed x b fit.policy bounds.0 bounds.1 (inv.policy k x old))
            (λ (new : e ≡ x). sym (ap (λ (y : Entry). y.body.policy) new))
            (which chain e x k at);
        last = sym (last-push chain e);
        asked = λ c is. absurd (cc);
        abandoned = λ c retained.
            let has = has-filtered (has_same_before b) s.abandoned c retained in
            let old = inv.abandoned c has in (
              omega (arith, old.0, prev, later),
              λ k x at is. ⊎_elim
                  (λ (before : slice_get chain k ≡ Some x). old.1 k x before is)
                  (λ (new : e ≡ x). unsettled (inl (subst (λ (y : Body). Has s.abandoned y) (sym (ap (λ (y : Entry). y.body) new ∙ is)) has)))
                  (which chain e x k at),
            );
      }

  pushed-bars : (chain : List Entry) (s : Guarded) (b : Body) (signature : Signature) → Inv hash verdict chain s → Fits hash verdict chain s.signed b
      → (¬ Settles s b) → (c : Body) → Barred chain s c
      → Barred (chain ++ signed b signature ∷ []) (record { signed = Some (signed b signature); asked = None; abandoned = rivals b s.abandoned }) c
  pushed-bars chain s b signature inv fit unsettled c bar =
      let e : Entry = signed b signature in
      let prev = fit.prev in
      let later = fit.later in
      record {
        not = λ k x at is. ⊎_elim
            (λ (old : slice_get chain k ≡ Some x). bar.not k x old is)
            (λ (new : e ≡ x).
            let same : b ≡ c = ap (λ (y : Entry). y.body) new ∙ is in
            ⊎_elim
            (λ (less : c.t_prev < last_epoch s.signed). let one = ap (λ (y : Body). y.t_prev) same in omega (arith, one, less, prev))
            (λ (has : Has s.abandoned c). unsettled (inl (subst (λ (y : Body). Has s.abandoned y) (sym same) has)))
            bar.why)
            (which chain e x k at);
        why = inl (⊎_elim
            (λ (less : c.t_prev < last_epoch s.signed). omega (arith, less, prev, later))
            (λ (has : Has s.abandoned c). omega (arith, (inv.abandoned c has).0, prev, later))
            bar.why);
      }

  grows : (chain : List Entry) (s : Guarded) (b : Body) (signature : Signature) → Inv hash verdict chain s → Fits hash verdict chain s.signed b → (¬ Settles s b)
      → verdict (body_bytes b) signature.0 ≡ true
      → Moved hash verdict chain s (record { signed = Some (signed b signature); asked = None; abandoned = rivals b s.abandoned })
  grows chain s b signature inv fit unsettled valid = record {
    after = chain ++ signed b signature ∷ [];
    inv = pushed chain s b signature inv fit unsettled valid;
    keeps = pushed-bars chain s b signature inv fit unsettled;
    holds = has-front chain (signed b signature);
    only = has-push chain (signed b signature);
    begun = λ past one. begins-push past chain (signed b signature) one;
  }

  -- the last signature is replaced
  resigned : (before : Option AuditorState) (e : Entry) (signature : Signature) → Follows verdict before e → verdict (body_bytes e.body) signature.0 ≡ true
      → Follows verdict before (signed e.body signature)
  resigned before e signature follows valid =
      let m = row verdict before e follows in
      record { rows = (m Version, (m VersionBack, (m FirstEpoch, (m NotLater, (m PreviousEpoch, (m PreviousLink, (m NonceChanged, (valid, tt)))))))) }

  good-front : (init : List Entry) (e : Entry) → GoodChain hash verdict (init ++ e ∷ []) → GoodChain hash verdict init
  good-front init e good = λ k x at.
      let within = slice_get_within init k x at in
      subst (λ before. Follows verdict before x) (before_at-push hash None init e k (omega (arith, within))) (good k x (front-of init e x k at))

  good-resigned : (init : List Entry) (e : Entry) (signature : Signature) → GoodChain hash verdict (init ++ e ∷ []) → verdict (body_bytes e.body) signature.0 ≡ true
      → GoodChain hash verdict (init ++ signed e.body signature ∷ [])
  good-resigned init e signature good valid =
      let last = subst (λ before. Follows verdict before e) (before_at-push hash None init e (length init) (omega arith)) (good (length init) e (get-last init e)) in
      good_push hash verdict init (signed e.body signature) (good-front init e good) (resigned (before_at hash None init (length init)) e signature last valid)

  mended : (init : List Entry) (e : Entry) (s : Guarded) (signature : Signature) → Inv hash verdict (init ++ e ∷ []) s → s.signed ≡ Some e
      → verdict (body_bytes e.body) signature.0 ≡ true
      → Moved hash verdict (init ++ e ∷ []) s (record { signed = Some (signed e.body signature); asked = None; abandoned = s.abandoned })
  mended init e s signature inv is valid =
      let f : Entry = signed e.body signature in
      let epoch : last_epoch s.signed ≡ e.body.t = ap last_epoch is in
      record {
        after = init ++ f ∷ [];
        inv = record {
          good = good-resigned init e signature inv.good valid;
          bounded = λ k x at.
              let found = at-swap init e f refl k x at in
              let bounds = inv.bounded k found.0 found.1 in
              subst (λ (y : Body). (y.t_prev < y.t) × (y.t ≤ e.body.t)) found.2 (bounds.0, omega (arith, bounds.1, epoch));
          policy = λ k x at.
              let found = at-swap init e f refl k x at in
              sym (ap (λ (y : Body). y.policy) found.2) ∙ inv.policy k found.0 found.1 ∙ ap policy_in is;
          last = sym (last-push init f);
          asked = λ c some. absurd (cc);
          abandoned = λ c has. let old = inv.abandoned c has in (omega (arith, old.0, epoch), not-swap init e f refl c old.1);
        };
        keeps = λ c bar. record {
          not = not-swap init e f refl c bar.not;
          why = ⊎_elim (λ (less : c.t_prev < last_epoch s.signed). inl (omega (arith, less, epoch))) (λ (has : Has s.abandoned c). inr has) bar.why;
        };
        holds = λ x has. has-swap init f e refl x has;
        only = λ x has. inl (has-swap init e f refl x has);
        begun = λ past one. begins-swap init e f refl past one;
      }

  mended-as : (chain init : List Entry) (e : Entry) (s : Guarded) (signature : Signature) → Inv hash verdict chain s → chain ≡ init ++ e ∷ [] → s.signed ≡ Some e
      → verdict (body_bytes e.body) signature.0 ≡ true
      → Moved hash verdict chain s (record { signed = Some (signed e.body signature); asked = None; abandoned = s.abandoned })
  mended-as chain init e s signature inv split is valid =
      subst (λ x. Moved hash verdict x s (record { signed = Some (signed e.body signature); asked = None; abandoned = s.abandoned })) (sym split)
      (mended init e s signature (subst (λ x. Inv hash verdict x s) split inv) is valid)

  mended-last : (chain : List Entry) (s : Guarded) (o : Option Entry) (b : Body) (signature : Signature) → Inv hash verdict chain s → s.signed ≡ o → IsLast o b
      → verdict (body_bytes b) signature.0 ≡ true
      → Moved hash verdict chain s (record { signed = Some (signed b signature); asked = None; abandoned = s.abandoned })
  mended-last chain s None b signature inv is last valid = absurd last
  mended-last chain s (Some e) b signature inv is last valid =
      subst (λ (x : Body). Moved hash verdict chain s (record { signed = Some (signed x signature); asked = None; abandoned = s.abandoned })) last
      (mended-as chain (take (length chain - 1) chain) e s signature inv (split-last chain e (sym inv.last ∙ is)) is
      (subst (λ (x : Body). verdict (body_bytes x) signature.0 ≡ true) (sym last) valid))

  -- a body is abandoned
  closes : (chain : List Entry) (s : Guarded) (b c : Body) (asked : Option Body) → Inv hash verdict chain s → ClosesTo s.asked b asked → asked ≡ Some c → Fits hash verdict chain s.signed c
  closes chain s b c asked inv (this_one was is) some = absurd (cc)
  closes chain s b c asked inv (other_one was is) some = inv.asked c (sym is ∙ some)

  -- a body after the last entry is not signed
  not-after : (chain : List Entry) (s : Guarded) (b : Body) → Inv hash verdict chain s → b.t_prev ≡ last_epoch s.signed → NotOf chain b
  not-after chain s b inv prev = λ k e at is.
      let same : e.body.t_prev ≡ b.t_prev = ap (λ (x : Body). x.t_prev) is in
      let bounds = inv.bounded k e at in
      omega (arith, same, bounds.0, bounds.1, prev)

  dropped : (chain : List Entry) (s : Guarded) (b : Body) (asked : Option Body) → Inv hash verdict chain s → b.t_prev ≡ last_epoch s.signed → ClosesTo s.asked b asked
      → Moved hash verdict chain s (record { signed = s.signed; asked = asked; abandoned = s.abandoned ++ b ∷ [] })
  dropped chain s b asked inv prev closing = stays chain s (record { signed = s.signed; asked = asked; abandoned = s.abandoned ++ b ∷ [] }) refl
      (record {
        good = inv.good;
        bounded = inv.bounded;
        policy = inv.policy;
        last = inv.last;
        asked = λ c some. closes chain s b c asked inv closing some;
        abandoned = λ c has. ⊎_elim
            (λ (old : slice_get s.abandoned has.0 ≡ Some c). inv.abandoned c (has.0, old))
            (λ (new : b ≡ c). subst (λ (x : Body). (x.t_prev ≤ last_epoch s.signed) × NotOf chain x) new (omega (arith, prev), not-after chain s b inv prev))
            (which s.abandoned b c has.0 has.1);
      })
      (λ c bar. record {
        not = bar.not;
        why = ⊎_elim
            (λ (less : c.t_prev < last_epoch s.signed). inl less)
            (λ (has : Has s.abandoned c). inr (has.0, front-of s.abandoned b c has.0 has.1))
            bar.why;
      })

  moved : (chain : List Entry) (s next : Guarded) → Inv hash verdict chain s → Moves hash verdict s next → Moved hash verdict chain s next
  moved chain s next inv (asks may b (ask_settled settled is)) = unmoved chain s next inv is
  moved chain s next inv (asks may b (opens unsettled ok is)) = subst (λ (x : Guarded). Moved hash verdict chain s x) (sym is) (opened may chain s b inv ok)
  moved chain s next inv (signs replaces b signature valid (sign_settled settled not is)) = unmoved chain s next inv is
  moved chain s next inv (signs replaces b signature valid (mends asked_to last none is)) =
      subst (λ (x : Guarded). Moved hash verdict chain s x) (sym is) (mended-last chain s s.signed b signature inv refl last valid)
  moved chain s next inv (signs replaces b signature valid (stores unsettled asked is)) =
      subst (λ (x : Guarded). Moved hash verdict chain s x) (sym is) (grows chain s b signature inv (inv.asked b asked) unsettled valid)
  moved chain s next inv (abandons b (abandon_settled settled is)) = unmoved chain s next inv is
  moved chain s next inv (abandons b (drops asked unsettled prev closing is)) =
      subst (λ (x : Guarded). Moved hash verdict chain s x) (sym is) (dropped chain s b asked inv prev closing)
  moved chain s next inv (adopts entry some (had_it is_last is)) = unmoved chain s next inv is
  moved chain s next inv (adopts entry some (begins is_empty formed is)) = absurd (some (ap (λ (x : Guarded). x.signed) is_empty))

  -- what holds after some records, of all that was signed
  record Reported (past : List Entry) (seen : List Guarded) (chain : List Entry) (s : Guarded) : Type 0 where
    inv : Inv hash verdict chain s
    begun : Begins past chain
    returned : (e : Entry) → IsReturned seen e → HasBodyOf chain e
    only : (e : Entry) → HasBodyOf chain e → HasBodyOf past e ⊎ IsSigned seen e.body
    gone : (b : Body) → IsAbandoned seen b → Barred chain s b

  -- an abandoned body of a record is barred
  barred : (chain : List Entry) (s : Guarded) (b : Body) → Inv hash verdict chain s → Has s.abandoned b → Barred chain s b
  barred chain s b inv has = record { not = (inv.abandoned b has).1; why = inr has }

  -- a signature that a record has is of the chain
  signed-last : (chain : List Entry) (s : Guarded) (e : Entry) → Inv hash verdict chain s → s.signed ≡ Some e → HasBodyOf chain e
  signed-last chain s e inv is = last-body chain e (sym inv.last ∙ is)

  signed-more : (seen : List Guarded) (next : Guarded) (b : Body) → IsSigned seen b → IsSigned (seen ++ next ∷ []) b
  signed-more seen next b was = record { place = was.place; stored = was.stored; there = front-of seen next was.stored was.place was.there; last = was.last }

  -- one record more
  reported-more : (past : List Entry) (seen : List Guarded) (chain : List Entry) (s next : Guarded) → Reported past seen chain s → (m : Moved hash verdict chain s next)
      → Reported past (seen ++ next ∷ []) m.after next
  reported-more past seen chain s next reported m = record {
    inv = m.inv;
    begun = m.begun past reported.begun;
    returned = λ e was. ⊎_elim
        (λ (old : slice_get seen was.place ≡ Some was.stored).
        m.holds e (reported.returned e (record { place = was.place; stored = was.stored; there = old; signed = was.signed })))
        (λ (new : next ≡ was.stored). signed-last m.after next e m.inv (ap (λ (x : Guarded). x.signed) new ∙ was.signed))
        (which seen next was.stored was.place was.there);
    only = λ e has. ⊎_elim
        (λ (old : HasBodyOf chain e). ⊎_elim
        (λ (before : HasBodyOf past e). inl before)
        (λ (was : IsSigned seen e.body). inr (signed-more seen next e.body was))
        (reported.only e old))
        (λ (new : IsLast next.signed e.body). inr (record { place = length seen; stored = next; there = get-last seen next; last = new }))
        (m.only e has);
    gone = λ b was. ⊎_elim
        (λ (old : slice_get seen was.place ≡ Some was.stored).
        m.keeps b (reported.gone b (record { place = was.place; stored = was.stored; there = old; named = was.named })))
        (λ (new : next ≡ was.stored). barred m.after next b m.inv (subst (λ (x : Guarded). Has x.abandoned b) (sym new) was.named))
        (which seen next was.stored was.place was.there);
  }

  -- what holds at the end
  record Outcome (past : List Entry) (seen : List Guarded) : Type 0 where
    chain : List Entry
    last : Guarded
    reported : Reported past seen chain last

  outcome : (past : List Entry) (rest seen : List Guarded) (chain : List Entry) (s : Guarded) → Reported past seen chain s → IsRun hash verdict s rest → Outcome past (seen ++ rest)
  outcome past [] seen chain s reported run =
      record { chain = chain; last = s; reported = subst (λ x. Reported past x chain s) (sym (append-nil seen)) reported }
  outcome past (next ∷ rest) seen chain s reported run =
      let m = moved chain s next reported.inv run.0 in
      let out = outcome past rest (seen ++ next ∷ []) m.after next (reported-more past seen chain s next reported m) run.1 in
      subst (Outcome past) (append_assoc seen (next ∷ []) rest) out

  -- a record that is empty, or has the last entry of the past
  begun : (past : List Entry) (policy : List ℕ) (first : Guarded) → GoodChain hash verdict past → HasPolicy policy past → IsBegun past first → Inv hash verdict past first
  begun past policy first good one (anew is_past is_first) =
      subst (λ (x : Guarded). Inv hash verdict past x) (sym is_first)
      (subst (λ p. Inv hash verdict p empty) (sym is_past)
      (record {
        good = subst (GoodChain hash verdict) is_past good;
        bounded = λ k e at. absurd (none-in-nothing k e at);
        policy = λ k e at. absurd (none-in-nothing k e at);
        last = refl;
        asked = λ b some. absurd (cc);
        abandoned = λ b has. absurd (none-in-nothing has.0 b has.1);
      }))
  begun past policy first good one (known entry is (had_it was made)) = absurd (cc)
  begun past policy first good one (known entry is (begins was formed made)) =
      subst (λ (x : Guarded). Inv hash verdict past x) (sym made)
      (record {
        good = good;
        bounded = λ k e at.
            let fine = (well_formed hash verdict past good k e at).later in
            let within = slice_get_within past k e at in
            let top : e.body.t ≤ entry.body.t = ⊎_elim
            (λ (less : k < length past - 1). let more = increasing hash verdict past k (length past - 1) e entry good at is less in omega (arith, more))
            (λ (le : length past - 1 ≤ k).
            let here : k ≡ length past - 1 = omega arith in
            let same : e ≡ entry = same_Some e entry (sym at ∙ ap (slice_get past) here ∙ is) in
            let epoch = ap (λ (x : Entry). x.body.t) same in
            omega (arith, epoch))
            (cases_lt k (length past - 1)) in
            (fine, top);
        policy = λ k e at. one k e at ∙ sym (one (length past - 1) entry is);
        last = sym is;
        asked = λ b some. absurd (cc);
        abandoned = λ b has. absurd (none-in-nothing has.0 b has.1);
      })

  reported-first : (past : List Entry) (first : Guarded) → Inv hash verdict past first → Reported past (first ∷ []) past first
  reported-first past first inv = record {
    inv = inv;
    begun = begins-itself past;
    returned = λ e was. ⊎_elim
        (λ (old : slice_get [] was.place ≡ Some was.stored). absurd (none-in-nothing was.place was.stored old))
        (λ (new : first ≡ was.stored). signed-last past first e inv (ap (λ (x : Guarded). x.signed) new ∙ was.signed))
        (which [] first was.stored was.place was.there);
    only = λ e has. inl has;
    gone = λ b was. ⊎_elim
        (λ (old : slice_get [] was.place ≡ Some was.stored). absurd (none-in-nothing was.place was.stored old))
        (λ (new : first ≡ was.stored). barred past first b inv (subst (λ (x : Guarded). Has x.abandoned b) (sym new) was.named))
        (which [] first was.stored was.place was.there);
  }

pub guarded : GuardLaw
guarded hash verdict past policy first rest good one begin run =
    let out = outcome hash verdict past rest (first ∷ []) past first (reported-first hash verdict past first (begun hash verdict past policy first good one begin)) run in
    record {
      chain = out.chain;
      good = out.reported.inv.good;
      policy = (policy_in out.last.signed, out.reported.inv.policy);
      begins = out.reported.begun;
      returned = out.reported.returned;
      only = out.reported.only;
      abandoned = λ e has gone. (out.reported.gone e.body gone).not has.place has.member has.there (sym has.same);
    }

pub never_convict : GuardedNeverConvict
never_convict hash verdict past policy first rest good one begin run a b is_a is_b kind =
    let all = guarded hash verdict past policy first rest good one begin run in
    one_chain hash verdict all.chain all.good all.policy.0 a b all.policy.1 (all.returned a is_a) (all.returned b is_b) kind
