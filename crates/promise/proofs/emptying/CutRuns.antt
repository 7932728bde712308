-- Lists of stores under which a fact holds wherever they are stopped, whatever is put back that an unflushed reset wiped, and whatever a cut keeps then; and
-- another at the end, where nothing is remembered. How such lists join; and a list with the flush that follows it if it stored.
use Rattle.std.specs.Prelude.{◌≡◌, refl, Bool, true, false, ℕ, ◌+◌, ◌-◌, ◌<◌, List, [], ◌∷◌, ◌++◌, length, take}
use Rattle.std.proofs.Common.{sym, ap, ◌∙◌, subst, arith, append-nil}
use Rattle.std.proofs.Math.Decide.{dec_lt}
use Rattle.std.proofs.lemmas.List.{take-append-le}
use Rattle.std.proofs.Math.Seq.{take-append-add, take-nil, take-length}
use Rattle.tables.specs.meaning.Basics.{pick}
use Rattle.tables.specs.meaning.Lists.{is_nil}
use Rattle.tables.specs.laws.Lists.{is_nil_lem}
use Rattle.tables.specs.meaning.Device.{Device, Store, apply_all, Cut}
use Rattle.tables.specs.laws.Device.{apply_all_append}
use Rattle.tables.specs.laws.Local.{LocalStore, flush_here, local_stores, local_append}
use Rattle.tables.specs.meaning.Cached.{Caching, uncached, apply_all_caching}
use Rattle.tables.specs.laws.Cached.{caching_append, remember_here}
use Rattle.tables.specs.meaning.Drives.{present_but}
use Rattle.tables.specs.declared.Geometry.{Geometry}
use Rattle.volume.specs.meaning.Calls.{flush_stores}
use Rattle.promise.proofs.invariant.Invariant.{Here}
use Rattle.promise.proofs.invariant.Delayed.{PutBack, Delayed, Forgets, forgets_append, delayed_append, flushed_forgets}
use Rattle.promise.proofs.emptying.EmptyingsDelayed.{flush_seen}

pub record CutRuns (g : Geometry) (x : ℕ) (v : Device) (xs : List Store) (Left After : Device → Type 0) : Type 0 where
  pub stopped : (k : ℕ) (u w : Device) → Delayed g x v (take k xs) u → Cut x u w → Left w
  pub forgets : Forgets g x v xs
  pub after : After (apply_all xs v)

pub cut_runs_then : (g : Geometry) (x : ℕ) (v : Device) (xs ys : List Store) (Left A B : Device → Type 0) → CutRuns g x v xs Left A → (A (apply_all xs v) → CutRuns g x (apply_all xs v) ys Left B) → CutRuns g x v (xs ++ ys) Left B
cut_runs_then g x v xs ys Left A B a b = record {
  stopped = λ k u w h cut. go k u w h cut (dec_lt k (length xs));
  forgets = forgets_append g x v xs ys a.forgets (b a.after).forgets;
  after = rw (apply_all_append xs ys v) (b a.after).after;
}
  where
    go : (k : ℕ) (u w : Device) → Delayed g x v (take k (xs ++ ys)) u → Cut x u w → Dec (k < length xs) → Left w
    go k u w h cut (yes q) = a.stopped k u w (subst (λ (zs : List Store). Delayed g x v zs u) (take-append-le k xs ys (omega (arith, q))) h) cut
    go k u w h cut (no q) =
        let j = k - length xs in
        let m : k ≡ length xs + j = omega arith in
        let e : take k (xs ++ ys) ≡ xs ++ take j ys = ap (λ (i : ℕ). take i (xs ++ ys)) m ∙ take-append-add xs ys j in
        (b a.after).stopped j u w (delayed_append g x v xs (take j ys) u a.forgets (subst (λ (zs : List Store). Delayed g x v zs u) e h)) cut

-- ---- a list, and a flush if it stored (early, late: what is known of a stop in the list, and in the flush)
module _ (g : Geometry) (x : ℕ) (v : Device) (xs : List Store) (Left After : Device → Type 0)
    (early : (k : ℕ) (u w : Device) → Delayed g x v (take k xs) u → Cut x u w → Left w)
    (late : (n : ℕ) (u w : Device) → PutBack g x (apply_all_caching (take n (flush_stores g (present_but g x))) (apply_all_caching xs (uncached v))) u → Cut x u w → Left w) where
  abbrev F : List Store
  F = flush_stores g (present_but g x)

  in_flush_lem : (b : Bool) (j : ℕ) (u w : Device) → Delayed g x v (xs ++ take j (pick b [] F ++ [])) u → Cut x u w → Left w
  in_flush_lem true j u w h cut =
      let e : xs ++ take j [] ≡ take (length xs) xs = ap (λ (t : List Store). xs ++ t) (take-nil j) ∙ append-nil xs ∙ sym (take-length xs) in
      early (length xs) u w (subst (λ (t : List Store). Delayed g x v t u) e h) cut
  in_flush_lem false j u w h cut =
      let h1 = subst (λ (t : List Store). Delayed g x v (xs ++ take j t) u) (append-nil F) h in
      late j u w (subst (λ (a : Caching). PutBack g x a u) (caching_append xs (take j F) (uncached v)) h1) cut

  stop : (b : Bool) (k : ℕ) (u w : Device) → Delayed g x v (take k (xs ++ (pick b [] F ++ []))) u → Cut x u w → Left w
  stop b k u w h cut = go (dec_lt k (length xs))
    where
      go : Dec (k < length xs) → Left w
      go (yes q) = early k u w (subst (λ (zs : List Store). Delayed g x v zs u) (take-append-le k xs (pick b [] F ++ []) (omega (arith, q))) h) cut
      go (no q) =
          let j = k - length xs in
          let m : k ≡ length xs + j = omega arith in
          let e : take k (xs ++ (pick b [] F ++ [])) ≡ xs ++ take j (pick b [] F ++ []) = ap (λ (i : ℕ). take i (xs ++ (pick b [] F ++ []))) m ∙ take-append-add xs (pick b [] F ++ []) j in
          in_flush_lem b j u w (subst (λ (zs : List Store). Delayed g x v zs u) e h) cut

  forget : (b : Bool) → (b ≡ true → xs ≡ []) → Forgets g x v (xs ++ (pick b [] F ++ []))
  forget true e = record { none = λ d y a. rw (e refl) refl }
  forget false e = record { none = λ d y a. ap (λ (os : List LocalStore). remember_here os (v d y) []) (seen d y a) ∙ flushed_forgets (local_stores d y xs) (v d y) [] }
    where
      seen : (d y : ℕ) → Here g x d → local_stores d y (xs ++ (F ++ [])) ≡ local_stores d y xs ++ (flush_here ∷ [])
      seen d y a = local_append d y xs (F ++ []) ∙ ap (λ (os : List LocalStore). local_stores d y xs ++ os) (ap (local_stores d y) (append-nil F) ∙ flush_seen g x d y a)

  pub flushed_run : After (apply_all (xs ++ (pick (is_nil xs) [] F ++ [])) v) → CutRuns g x v (xs ++ (pick (is_nil xs) [] F ++ [])) Left After
  flushed_run q = record { stopped = stop (is_nil xs); forgets = forget (is_nil xs) (is_nil_lem xs); after = q }
