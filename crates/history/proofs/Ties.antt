-- What ties a record of the model to one of the history, and how each call keeps it.
use Rattle.std.proofs.Common.{◌≡◌, ℕ, ◌+◌, ◌≤◌, Bool, true, false, cond, eqb, ◌⊎◌, List, ◌∷◌, sym, refl, ap, ◌∙◌, true≢false, arith}
use mathlib.Core.Bool.{false≢true}
use Rattle.std.proofs.lemmas.Bool.{le-leb, lt-leb}
use Rattle.kind.specs.Kinds.{Ops, Laws}
use Rattle.chain.specs.declared.version.Version.{Version}
use Rattle.chain.specs.Versions.{Finished, Open, AtMost, reading}
use Rattle.chain.specs.RecordLaw.{Right}
use Rattle.history.specs.History.{Hold, free, held, Record, past, change_record, finish_record, free_record}
use Rattle.history.specs.Model.{Stored, finished_under, finished_row, pruned, change_stored, finish_stored, free_stored}
use Rattle.chain.proofs.Reading.{atmost_mono}
use Rattle.chain.proofs.Law.{open_keeps, close_keeps, commit_keeps}
use Rattle.history.proofs.Rights.{right_row, right_full, pruned_atmost}

module _ {Row Edit Change : Type 0} (k : Ops Row Edit Change) where
  -- both know the same holder, and the row in place tells the held row
  abbrev pub Holds : Row → Hold Row → Hold Change → Type 0
  Holds p free free = Unit {0}
  Holds p free (held v c) = ⊥
  Holds p (held w r) free = ⊥
  Holds p (held w r) (held v c) = (w ≡ v) × (k.tells r ≡ k.tells p)

  pub record Tied (os : ℕ → ℕ) (clock : ℕ) (f : Record Row) (x : Stored Row Change) : Type 0 where
    pub last : f.newest.time ≡ x.last
    pub early : x.last ≤ clock
    pub within : AtMost x.last x.chain
    pub newest : k.tells (finished_row k x) ≡ k.tells f.newest.row
    pub right : Right k os (finished_row k x) (past k f) x.chain
    pub holds : Holds x.place f.holder x.holder

  abbrev rec : Finished Row → List (Finished Row) → Hold Row → Record Row
  rec n o h = record { newest = n; older = o; holder = h }

  abbrev stored : Row → Hold Change → ℕ → List (Version Change) → Stored Row Change
  stored p h l c = record { place = p; holder = h; last = l; chain = c }

  module _ (laws : Laws k) where
    -- a lease more, at t
    pub open_tied : (os more : ℕ → ℕ) (clock t : ℕ) (f : Record Row) (x : Stored Row Change) → ((w : ℕ) → Open more w → (w ≡ t) ⊎ Open os w) → ((w : ℕ) → Open os w → Open more w) → clock ≤ t → Tied os clock f x → Tied more t f x
    open_tied os more clock t f x cases keeps h d =
        let late : x.last ≤ t = omega (arith, d.early) in
        let reach : f.newest.row ≡ past k f t = sym (ap (λ b. cond b f.newest.row (reading k.blank f.older t)) (le-leb f.newest.time t (omega (arith, d.last)))) in
        record {
          last = d.last;
          early = late;
          within = d.within;
          newest = d.newest;
          holds = d.holds;
          right = open_keeps k os more (finished_row k x) (past k f) x.chain t cases keeps (atmost_mono x.chain x.last t late d.within) (d.newest ∙ ap k.tells reach) d.right;
        }

    -- fewer leases, and the chain pruned
    pub pruned_tied : (os fewer : ℕ → ℕ) (clock t : ℕ) (f : Record Row) (x : Stored Row Change) → clock ≤ t → ((s : ℕ) → Open fewer s → Open os s) → Tied os clock f x → Tied fewer t f (pruned k fewer x)
    pruned_tied os fewer clock t f x h sub d =
        record {
          last = d.last;
          early = omega (arith, d.early);
          newest = d.newest;
          holds = d.holds;
          within = pruned_atmost k fewer x.chain (finished_row k x) x.last d.within;
          right = close_keeps k laws os fewer (finished_row k x) (past k f) x.chain sub d.right;
        }

    -- from one row to another that tells the same, and a new holder
    moved : (os : ℕ → ℕ) (clock : ℕ) (f : Record Row) (x : Stored Row Change) (p : Row) (h : Hold Row) (g : Hold Change) → Tied os clock f x → k.tells (finished_row k x) ≡ k.tells (finished_under k p g) → Holds p h g → Tied os clock (rec f.newest f.older h) (stored p g x.last x.chain)
    moved os clock f x p h g d e hold =
        record {
          last = d.last;
          early = d.early;
          within = d.within;
          newest = sym e ∙ d.newest;
          holds = hold;
          right = right_row k laws os (finished_row k x) (finished_under k p g) (past k f) x.chain e d.right;
        }

    pub change_tied : (os : ℕ → ℕ) (clock w : ℕ) (e : Edit) (f : Record Row) (x : Stored Row Change) → Tied os clock f x → Tied os clock (change_record k w e f) (change_stored k w e x)
    change_tied os clock w e f x d = go f.holder x.holder d
      where
        go : (h : Hold Row) (g : Hold Change) → Tied os clock (rec f.newest f.older h) (stored x.place g x.last x.chain) → Tied os clock (change_record k w e (rec f.newest f.older h)) (change_stored k w e (stored x.place g x.last x.chain))
        go free free d = moved os clock _ _ (k.edited x.place e) _ _ d (sym (laws.undone x.place e)) (refl, laws.alike_edit f.newest.row x.place e (sym d.newest))
        go free (held v c) d = absurd d.holds
        go (held v r) free d = absurd d.holds
        go (held v r) (held u c) d =
            moved os clock _ _ (k.edited x.place e) _ _ d
            (sym (laws.joined (k.edited x.place e) (k.before x.place e) c ∙ laws.alike_undo _ x.place c (laws.undone x.place e)))
            (d.holds.0, laws.alike_edit r x.place e d.holds.1)

    pub free_tied : (os : ℕ → ℕ) (clock w : ℕ) (f : Record Row) (x : Stored Row Change) → Tied os clock f x → Tied os clock (free_record k w f) (free_stored k w x)
    free_tied os clock w f x d = go f.holder x.holder d
      where
        go : (h : Hold Row) (g : Hold Change) → Tied os clock (rec f.newest f.older h) (stored x.place g x.last x.chain) → Tied os clock (free_record k w (rec f.newest f.older h)) (free_stored k w (stored x.place g x.last x.chain))
        go free free d = d
        go free (held v c) d = absurd d.holds
        go (held v r) free d = absurd d.holds
        go (held v r) (held u c) d = test (eqb w v) (eqb w u) (ap (eqb w) d.holds.0)
          where
            test : (a b : Bool) → a ≡ b → Tied os clock (rec f.newest f.older (cond a free (held v r))) (cond b (stored (k.undo x.place c) free x.last x.chain) (stored x.place (held u c) x.last x.chain))
            test true true q = moved os clock _ _ (k.undo x.place c) free free d refl tt
            test true false q = absurd (true≢false q)
            test false true q = absurd (false≢true q)
            test false false q = d

    pub finish_tied : (os fewer : ℕ → ℕ) (clock w : ℕ) (f : Record Row) (x : Stored Row Change) → ((s : ℕ) → Open fewer s → Open os s × (s ≤ clock)) → Tied os clock f x → Tied fewer (clock + 1) (finish_record k w (clock + 1) f) (pruned k fewer (finish_stored k w (clock + 1) x))
    finish_tied os fewer clock w f x sub d = go f.holder x.holder d
      where
        unaltered : (h : Hold Row) (g : Hold Change) → Tied os clock (rec f.newest f.older h) (stored x.place g x.last x.chain) → Tied fewer (clock + 1) (rec f.newest f.older h) (pruned k fewer (stored x.place g x.last x.chain))
        unaltered h g d = pruned_tied os fewer clock (clock + 1) _ _ (omega arith) (λ s o. (sub s o).0) d

        go : (h : Hold Row) (g : Hold Change) → Tied os clock (rec f.newest f.older h) (stored x.place g x.last x.chain) → Tied fewer (clock + 1) (finish_record k w (clock + 1) (rec f.newest f.older h)) (pruned k fewer (finish_stored k w (clock + 1) (stored x.place g x.last x.chain)))
        go free free d = unaltered free free d
        go free (held v c) d = absurd d.holds
        go (held v r) free d = absurd d.holds
        go (held v r) (held u c) d = test (eqb w v) (eqb w u) (ap (eqb w) d.holds.0)
          where
            version : Version Change
            version = record { time = clock + 1; change = c }

            hs : List (Finished Row)
            hs = f.newest ∷ f.older

            before : AtMost (clock + 1) x.chain
            before = atmost_mono x.chain x.last (clock + 1) (omega (arith, d.early)) d.within

            -- at an open time the row just finished is not read
            older : (q : Row) (s : ℕ) → Open fewer s → reading k.blank (record { time = clock + 1; row = q } ∷ hs) s ≡ reading k.blank hs s
            older q s o = ap (λ b. cond b q (reading k.blank hs s)) (lt-leb (clock + 1) s (omega (arith, (sub s o).1)))

            done : Tied fewer (clock + 1) (rec (record { time = clock + 1; row = r }) hs free) (pruned k fewer (stored x.place free (clock + 1) (version ∷ x.chain)))
            done =
                record {
                  last = refl;
                  early = omega arith;
                  newest = sym d.holds.1;
                  holds = tt;
                  within = pruned_atmost k fewer (version ∷ x.chain) x.place (clock + 1) (omega arith, before);
                  right =
                      right_full k fewer x.place _ _ _ (λ s o. ap k.tells (older x.place s o ∙ sym (older r s o)))
                      (commit_keeps k laws os fewer (k.undo x.place c) x.place k.blank hs x.chain version (λ s o. ((sub s o).0, omega (arith, (sub s o).1))) before refl d.right);
                }

            test : (a b : Bool) → a ≡ b → Tied fewer (clock + 1) (cond a (rec (record { time = clock + 1; row = r }) hs free) (rec f.newest f.older (held v r))) (pruned k fewer (cond b (stored x.place free (clock + 1) (version ∷ x.chain)) (stored x.place (held u c) x.last x.chain)))
            test true true q = done
            test true false q = absurd (true≢false q)
            test false true q = absurd (false≢true q)
            test false false q = unaltered (held v r) (held u c) d
