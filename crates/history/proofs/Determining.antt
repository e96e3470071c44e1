-- Two runs of the same calls tell the same.
use Rattle.std.proofs.Common.{◌≡◌, ℕ, ◌<◌, List, [], ◌∷◌, length, sym, refl, ap, ◌∙◌, subst, arith}
use mathlib.Core.Path.{fun_ext}
use Rattle.kind.specs.Kinds.{Ops}
use Rattle.lease.specs.Times.{opens}
use Rattle.chain.specs.declared.version.Version.{Version}
use Rattle.history.specs.declared.call.Call.{Call}
use Rattle.history.specs.declared.call.Call.TheVariants.{Open as call_open, Read as call_read, Close as call_close, Begin as call_begin, Look as call_look, Change as call_change, Commit as call_commit, Abandon as call_abandon, Held as call_held, Kept as call_kept, InUse as call_in_use}
use Rattle.history.specs.declared.call.Outcome.{Outcome}
use Rattle.history.specs.declared.call.Outcome.TheVariants.{Kept, InUse, Refused}
use Rattle.history.specs.declared.fault.StoreFault.{StoreFault}
use Rattle.history.specs.Card.{list_short}
use Rattle.history.specs.History.{History, Record, record_of}
use Rattle.history.specs.Law.{Told, plain, times, Check, refuses, passes, Says, Shows, Keeps, Holds, Uses, Answers, Run}
use Rattle.history.specs.Determined.{Sense, held_counts, sense, Determined}
use Rattle.history.proofs.Room.{needed_one}

module _ {Row Edit Change : Type 0} (k : Ops Row Edit Change) where
  record Agree (o : Told Row) (h₁ : History Row) (p : Told Row) (h₂ : History Row) : Type 0 where
    tells : sense k o ≡ sense k p
    ends : h₁ ≡ h₂

  says_one : {o p : Told Row} {out : Outcome Row} {h₁ h₂ after : History Row} → Says out after o h₁ → Says out after p h₂ → Agree o h₁ p h₂
  says_one a b = record { tells = ap (sense k) (a.0 ∙ sym b.0); ends = a.1 ∙ sym b.1 }

  module _ {h : History Row} {o p : Told Row} {h₁ h₂ : History Row} where
    both : {F : Type 0} {z : StoreFault} {P : Told Row → History Row → Type 0} → Check h F z P o h₁ → Check h F z P p h₂ → (P o h₁ → P p h₂ → Agree o h₁ p h₂) → Agree o h₁ p h₂
    both (refuses f e s) (refuses g d t) next = record { tells = ap (sense k) (e ∙ sym d); ends = s ∙ sym t }
    both (refuses f e s) (passes n r) next = absurd (n f)
    both (passes n r) (refuses g d t) next = absurd (n g)
    both (passes n r) (passes m t) next = next r t

    shows_one : (q : Row) → Shows k h q o h₁ → Shows k h q p h₂ → Agree o h₁ p h₂
    shows_one q a b = record { tells = ap (sense k) a.1 ∙ ap Sense.row (a.2 ∙ sym b.2) ∙ sym (ap (sense k) b.1); ends = a.3 ∙ sym b.3 }

    holds_one : (w : ℕ) → Holds k h w o h₁ → Holds k h w p h₂ → Agree o h₁ p h₂
    holds_one w a b =
        let counts = fun_ext (λ i. a.3 i ∙ sym (b.3 i)) in
        let number = a.2 ∙ sym b.2 in
        record { tells = ap (sense k) a.1 ∙ (λ i. held_counts (number i) (counts i)) ∙ sym (ap (sense k) b.1); ends = a.4 ∙ sym b.4 }

    uses_one : Uses k h o h₁ → Uses k h p h₂ → Agree o h₁ p h₂
    uses_one a b = record { tells = ap (sense k) (a.2 ∙ ap (λ n. plain (InUse n)) (needed_one k (opens h.leases) h.records a.0 b.0 a.1 b.1) ∙ sym b.2); ends = a.3 ∙ sym b.3 }

    keeps_one : (given : ℕ) (f : Record Row) → Keeps k h given f o h₁ → Keeps k h given f p h₂ → Agree o h₁ p h₂
    keeps_one given f a b = go a.2 b.2
      where
        same : length a.0 ≡ length b.0
        same = omega (arith, a.1.least b.0 b.1.serves, b.1.least a.0 a.1.serves)

        KeptAs : List (Version Change) → Told Row → History Row → Type 0
        KeptAs vs q h'' = (q ≡ record { outcome = Kept (length vs); written = times vs }) × (h'' ≡ h)

        go : Check h (given < length a.0) (list_short (length a.0)) (KeptAs a.0) o h₁ → Check h (given < length b.0) (list_short (length b.0)) (KeptAs b.0) p h₂ → Agree o h₁ p h₂
        go (refuses f e s) (refuses g d t) = record { tells = ap (sense k) (e ∙ ap (λ n. plain (Refused (list_short n))) same ∙ sym d); ends = s ∙ sym t }
        go (refuses f e s) (passes n r) = absurd (n (omega (arith, same)))
        go (passes n r) (refuses g d t) = absurd (n (omega (arith, same)))
        go (passes n r) (passes m t) = record { tells = ap (sense k) r.0 ∙ ap (λ n. Sense.other (Kept n)) same ∙ sym (ap (sense k) t.0); ends = r.1 ∙ sym t.1 }

  module _ (cap room given : ℕ) where
    one : (h : History Row) (c : Call Edit) (o p : Told Row) (h₁ h₂ : History Row) → Answers k h cap room given c o h₁ → Answers k h cap room given c p h₂ → Agree o h₁ p h₂
    one h call_open o p h₁ h₂ a b = both a b says_one
    one h (call_read t i) o p h₁ h₂ a b = both a b (λ a b. both a b (shows_one _))
    one h (call_close t) o p h₁ h₂ a b = both a b says_one
    one h call_begin o p h₁ h₂ a b = both a b (λ a b. both a b says_one)
    one h (call_look w i) o p h₁ h₂ a b = both a b (λ a b. both a b (shows_one _))
    one h (call_change w i e) o p h₁ h₂ a b = both a b (λ a b. both a b (λ a b. both a b (λ a b. both a b (λ a b. both a b says_one))))
    one h (call_commit w) o p h₁ h₂ a b = both a b (λ a b. both a b says_one)
    one h (call_abandon w) o p h₁ h₂ a b = says_one a b
    one h (call_held w) o p h₁ h₂ a b = both a b (holds_one w)
    one h (call_kept i) o p h₁ h₂ a b = both a b (keeps_one given (record_of k h i))
    one h call_in_use o p h₁ h₂ a b = uses_one a b

  pub determined : Determined k
  determined cap room [] [] [] h h₁ h₂ a b = (refl, a ∙ sym b)
  determined cap room [] [] (p ∷ ps) h h₁ h₂ a b = absurd b
  determined cap room [] (o ∷ os) ps h h₁ h₂ a b = absurd a
  determined cap room (c ∷ cs) [] ps h h₁ h₂ a b = absurd a
  determined cap room (c ∷ cs) (o ∷ os) [] h h₁ h₂ a b = absurd b
  determined cap room (c ∷ cs) (o ∷ os) (p ∷ ps) h h₁ h₂ a b =
      let first = one cap room c.given h c.call o p a.0 b.0 a.1 b.1 in
      let rest = determined cap room cs os ps a.0 h₁ h₂ a.2 (subst (λ m. Run k cap room m cs ps h₂) (sym first.ends) b.2) in
      ((λ i. first.tells i ∷ rest.0 i), rest.1)
