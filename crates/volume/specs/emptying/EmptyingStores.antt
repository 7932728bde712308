-- The stores of one emptying, as the code makes them: a flush; the copies; the closing entry; a flush; the reset of the old log's zone, which by `to` is
-- the spare.
use Rattle.std.specs.Prelude.{◌≡◌, Bool, true, ℕ, List, [], ◌∷◌, ◌++◌}
use Rattle.std.proofs.Common.{sym, ap, ◌∙◌, append_assoc}
use Rattle.tables.specs.meaning.Device.{Store, append, reset}
use Rattle.tables.specs.meaning.Phases.{flush_all, on_present}
use Rattle.tables.specs.meaning.Tables.{Tables, tables_of}
use Rattle.tables.specs.laws.Made.{Made, MadeAppends, MadePointers, store_if}
use Rattle.tables.specs.laws.Counted.{made_append}
use Rattle.logs.specs.meaning.Entry.{spare_zone, kind_of_log, closing, encode}
use Rattle.volume.specs.declared.emptying.Emptying.{Emptying}
use Rattle.volume.specs.meaning.Calls.{append_all, flush_stores}
use Rattle.volume.specs.meaning.CallContracts.{is_set}
use Rattle.volume.specs.meaning.Emptying.{emptying_stores}
use Rattle.volume.specs.rows.RowStores.{append_all_append}
use Rattle.volume.specs.emptying.Shape.{SameShape, shape_encode}

-- the sectors of the new log: the copies ss and the closing entry
abbrev pub with_closing : Emptying → Bool → List (List ℕ) → List (List ℕ)
with_closing e par ss = ss ++ (encode e.from e.drive (closing (kind_of_log par) e.generation) ∷ [])

-- all stores, by `to`: there the new log is the log, and the old one the spare
abbrev pub emptied_to : Emptying → Bool → List (List ℕ) → List Store
emptied_to e par ss = emptying_stores e.from (is_set e.here) e.drive spare_zone (kind_of_log par) (with_closing e par ss)

abbrev flushes : Emptying → List Store
flushes e = on_present (is_set e.here) (flush_all e.from.drives)

-- those after the copies
unfoldable pub end_stores : Emptying → Bool → List Store
end_stores e par = append e.drive (kind_of_log par) (encode e.from e.drive (closing (kind_of_log par) e.generation)) ∷ (flushes e ++ (reset e.drive spare_zone ∷ []))

flushes_are : (e : Emptying) → SameShape e.from e.to → flush_stores e.to (is_set e.here) ≡ flushes e
unfolding flush_stores
flushes_are e s = ap (λ (n : ℕ). on_present (is_set e.here) (flush_all n)) s.drives

pub end_made : (e : Emptying) (par : Bool) → SameShape e.from e.to → (budget a b rest : ℕ) (xs ws ds xs₁ ws₁ ds₁ ws₂ ds₂ : List ℕ)
    → MadeAppends e.to budget a (store_if true (append e.drive (kind_of_log par) (encode e.to e.drive (closing (kind_of_log par) e.generation)))) xs ws xs₁ ws₁
    → MadePointers e.to a b (flush_stores e.to (is_set e.here)) ws₁ ds ws₁ ds₁ → MadePointers e.to b rest (store_if true (reset e.drive spare_zone)) ws₁ ds₁ ws₂ ds₂
    → Made e.to budget rest (end_stores e par) (tables_of xs ws ds) (tables_of xs₁ ws₂ ds₂)
unfolding end_stores
end_made e par s budget a b rest xs ws ds xs₁ ws₁ ds₁ ws₂ ds₂ p q r =
    let header = encode e.from e.drive (closing (kind_of_log par) e.generation) in
    let one : Made e.to budget a (append e.drive (kind_of_log par) header ∷ []) (tables_of xs ws ds) (tables_of xs₁ ws₁ ds) = rw (shape_encode e.from e.to s e.drive (closing (kind_of_log par) e.generation)) at (p.made ds) in
    let two : Made e.to a b (flushes e) (tables_of xs₁ ws₁ ds) (tables_of xs₁ ws₁ ds₁) = rw (flushes_are e s) at (q.made xs₁) in
    made_append e.to budget a rest (append e.drive (kind_of_log par) header ∷ []) (flushes e ++ (reset e.drive spare_zone ∷ [])) (tables_of xs ws ds) (tables_of xs₁ ws₁ ds) (tables_of xs₁ ws₂ ds₂) one
    (made_append e.to a b rest (flushes e) (reset e.drive spare_zone ∷ []) (tables_of xs₁ ws₁ ds) (tables_of xs₁ ws₁ ds₁) (tables_of xs₁ ws₂ ds₂) two (r.made xs₁))

emptied_is : (e : Emptying) (par : Bool) (ss : List (List ℕ)) → flushes e ++ (append_all e.drive (kind_of_log par) ss ++ end_stores e par) ≡ emptied_to e par ss
unfolding emptying_stores end_stores
emptied_is e par ss =
    let c = encode e.from e.drive (closing (kind_of_log par) e.generation) in
    ap (λ (l : List Store). flushes e ++ l)
    (sym (append_assoc (append_all e.drive (kind_of_log par) ss) (append e.drive (kind_of_log par) c ∷ []) (flushes e ++ (reset e.drive spare_zone ∷ [])))
    ∙ ap (λ (l : List Store). l ++ (flushes e ++ (reset e.drive spare_zone ∷ []))) (sym (append_all_append e.drive (kind_of_log par) ss (c ∷ []))))

pub emptied_made : (e : Emptying) (par : Bool) → SameShape e.from e.to → (budget a b rest : ℕ) (ss : List (List ℕ)) (xs ws ds ds₁ xs₁ ws₁ : List ℕ) (u : Tables) → MadePointers e.to budget a (flush_stores e.to (is_set e.here)) ws ds ws ds₁
    → MadeAppends e.to a b (append_all e.drive (kind_of_log par) ss) xs ws xs₁ ws₁ → Made e.to b rest (end_stores e par) (tables_of xs₁ ws₁ ds₁) u → Made e.to budget rest (emptied_to e par ss) (tables_of xs ws ds) u
emptied_made e par s budget a b rest ss xs ws ds ds₁ xs₁ ws₁ u p q r =
    let one : Made e.to budget a (flushes e) (tables_of xs ws ds) (tables_of xs ws ds₁) = rw (flushes_are e s) at (p.made xs) in
    let all = append_all e.drive (kind_of_log par) ss in
    rw (← emptied_is e par ss) (made_append e.to budget a rest (flushes e) (all ++ end_stores e par) (tables_of xs ws ds) (tables_of xs ws ds₁) u one
    (made_append e.to a b rest all (end_stores e par) (tables_of xs ws ds₁) (tables_of xs₁ ws₁ ds₁) u (q.made ds₁) r))
