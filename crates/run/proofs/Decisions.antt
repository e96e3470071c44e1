-- From what a call promises to the model's step: the checks o decide on the step st.
use Rattle.std.proofs.Common.{◌≡◌, ℕ, List, [], ◌++◌, length, take, drop, Some, None, Option, sym, refl, ap, ◌∙◌, subst}
use Rattle.std.proofs.lemmas.List.{take-append-drop}
use Rattle.history.specs.declared.call.Outcome.{Outcome}
use Rattle.history.specs.declared.fault.StoreFault.{StoreFault}
use Rattle.history.specs.Model.{Model, Step, refusal, decide}
use Rattle.run.specs.Steps.{Performed, Plain}

module _ {Row Change : Type 0} (o : Option StoreFault) (m m' : Model Row Change) (ls ls' : List ℕ) (st : Step Row Change) (out : Outcome Row) where
  -- accepted
  pub plain_ok : o ≡ None → out ≡ st.told.outcome → m' ≡ st.model → ls' ≡ st.leases → st.told.written ≡ [] → Plain (decide o m ls st) out m' ls'
  plain_ok e a b c d = subst (λ z. Plain (decide z m ls st) out m' ls') (sym e) (record { outcome = a; model = b; leases = c; quiet = d })

  -- refused
  pub plain_no : (f : StoreFault) → o ≡ Some f → out ≡ (refusal f).outcome → m' ≡ m → ls' ≡ ls → Plain (decide o m ls st) out m' ls'
  plain_no f e a b c = subst (λ z. Plain (decide z m ls st) out m' ls') (sym e) (record { outcome = a; model = b; leases = c; quiet = refl })

module _ {Row Change : Type 0} (o : Option StoreFault) (m : Model Row Change) (ls : List ℕ) (st : Step Row Change) (out : Outcome Row) (l l' : List ℕ) where
  -- a call that alters its list alone
  pub list_ok : o ≡ None → out ≡ st.told.outcome → m ≡ st.model → ls ≡ st.leases → (n : ℕ) → n ≡ length st.told.written → take n l' ≡ st.told.written → drop n l' ≡ drop n l → Performed (decide o m ls st) out m ls l l'
  list_ok e a b c n s front rest =
      subst (λ z. Performed (decide z m ls st) out m ls l l') (sym e)
      (record { outcome = a; model = b; leases = c; list = sym (take-append-drop n l') ∙ (λ j. front j ++ rest j) ∙ ap (λ z. st.told.written ++ drop z l) s })

  pub list_no : (f : StoreFault) → o ≡ Some f → out ≡ (refusal f).outcome → l' ≡ l → Performed (decide o m ls st) out m ls l l'
  list_no f e a b = subst (λ z. Performed (decide z m ls st) out m ls l l') (sym e) (record { outcome = a; model = refl; leases = refl; list = b })

pub plain_performed : {Row Change : Type 0} (st : Step Row Change) (out : Outcome Row) (m : Model Row Change) (ls l : List ℕ) → Plain st out m ls → Performed st out m ls l l
plain_performed st out m ls l p = record { outcome = p.outcome; model = p.model; leases = p.leases; list = ap (λ ws. ws ++ drop (length ws) l) (sym p.quiet) }
