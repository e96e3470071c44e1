-- A fold over a slice.
use Rattle.std.proofs.Common.{◌≡◌, List, [], ◌∷◌, ◌++◌, sym, refl, ap, ◌∙◌, append_assoc, append-nil, Bor, Iter}
use denote.Param.Members.{Mut, Called}
use Rattle.std.specs.Iterator.{FoldsItems}
use Rattle.std.proofs.lemmas.Fn.{fold_over, slice_gives, fronts}

-- where each call does the step of `over` and leaves the closure as it was, the fold gives what `over` says of the slice
module _ {A B F : Type 0} (over : B → List A → B) (step : B → A → B) (done : (b : B) → over b [] ≡ b) (more : (b : B) (x : A) (xs : List A) → over b (x ∷ xs) ≡ over (step b x) xs) where
  pub folded : {g : Mut F (B × (Bor A × Unit {0})) B} {s : Iter A} {f : F} {a r : B} → FoldsItems fronts g s f a r → ((b : B) (x : Bor A) (c : B) (q : F) → Called g f (b, (x, tt)) c q → (c ≡ step b x.now) × (q ≡ f)) → r ≡ over a s.rest.now
  folded {g} {s} {f} {a} {r} ran call =
      let after : List A → B → Type 0 = λ ys b. (zs : List A) → over a (ys ++ zs) ≡ over b zs in
      let all = fold_over fronts (λ y. y.now) g after f
      (λ ys b x c q so called. let one = call b x c q called in (λ zs. rw append_assoc (so (x.now ∷ zs) ∙ more b x.now zs ∙ ap (λ d. over d zs) (sym one.0)), one.1))
      s s.rest.now a r (slice_gives s) (λ zs. refl) ran in
      sym (done r) ∙ sym (all []) ∙ ap (over a) (append-nil s.rest.now)
