-- The label that is kept of a general log that is emptied (Copies' `kept_label`), as a walk finds it: the last one, with the array number with
-- which the log begins.
use Rattle.std.specs.Prelude.{◌≡◌, refl, false, ℕ, suc, ◌+◌, ◌≤◌, ◌<◌, List, [], ◌∷◌}
use Rattle.std.proofs.Common.{ap, ◌∙◌, inl, inr, arith}
use Rattle.tables.specs.declared.Geometry.{Geometry}
use Rattle.tables.specs.meaning.Drives.{no_drive}
use Rattle.logs.specs.declared.Found.{Found}
use Rattle.logs.specs.declared.Found.TheVariants.{Bad, Label, Counters, Resets, Partial, Seal, Closing}
use Rattle.logs.specs.meaning.Entry.{Header, label, counters, zone_reset, partial_parity, seal, closing, rows_of}
use Rattle.logs.specs.meaning.Walk.{walk_log}
use Rattle.logs.specs.meaning.Heads.{last_lost}
use Rattle.logs.specs.meaning.Copies.{last_label, array_for, kept_label}
use Rattle.logs.specs.code.Judge.{seen}
use Rattle.logs.specs.code.Query.{heads_of, first_seen}
use Rattle.logs.specs.code.Folding.{fold_heads}
use Rattle.logs.specs.code.Answers.{NamesDrive, lost_names}

-- ---- the last label so far, after what was found next
abbrev pub later_label : Found → Found → Found
later_label Bad l = l
later_label (Label x a) l = Label x a
later_label Counters l = l
later_label (Resets z n) l = l
later_label (Partial z s f n) l = l
later_label (Seal z p n) l = l
later_label (Closing gen) l = l

-- the last label; l if there is none
abbrev pub last_label_seen : Found → List Header → Found
last_label_seen l [] = l
last_label_seen l (h ∷ hs) = last_label_seen (later_label (seen h) l) hs

-- ---- with the array number with which the log begins
-- of a label's own, by the log's first entry
abbrev pub array_after : Found → ℕ → ℕ
array_after Bad own = own
array_after (Label x a) own = a
array_after Counters own = own
array_after (Resets z n) own = own
array_after (Partial z s f n) own = own
array_after (Seal z p n) own = own
array_after (Closing gen) own = own

abbrev pub relabelled : Found → Found → Found
relabelled first Bad = Bad
relabelled first (Label x a) = Label x (array_after first a)
relabelled first Counters = Bad
relabelled first (Resets z n) = Bad
relabelled first (Partial z s f n) = Bad
relabelled first (Seal z p n) = Bad
relabelled first (Closing gen) = Bad

unfoldable pub label_kept : List Header → Found
label_kept hs = relabelled (first_seen hs) (last_label_seen Bad hs)

-- ---- that is the copy
abbrev pub label_of : Found → List Header
label_of Bad = []
label_of (Label x a) = label x a ∷ []
label_of Counters = []
label_of (Resets z n) = []
label_of (Partial z s f n) = []
label_of (Seal z p n) = []
label_of (Closing gen) = []

abbrev label_by : (ℕ → ℕ) → Found → List Header
label_by f Bad = []
label_by f (Label x a) = label x (f a) ∷ []
label_by f Counters = []
label_by f (Resets z n) = []
label_by f (Partial z s v n) = []
label_by f (Seal z p n) = []
label_by f (Closing gen) = []

last_label_lem : (f : ℕ → ℕ) (l : Found) (hs : List Header) → label_by f (last_label_seen l hs) ≡ last_label f (label_by f l) hs
last_label_lem f l [] = refl
last_label_lem f l (label x a ∷ hs) = last_label_lem f (Label x a) hs
last_label_lem f l (counters cs ∷ hs) = last_label_lem f l hs
last_label_lem f l (zone_reset z n ∷ hs) = last_label_lem f l hs
last_label_lem f l (partial_parity z s i n ∷ hs) = last_label_lem f l hs
last_label_lem f l (seal z p n ∷ hs) = last_label_lem f l hs
last_label_lem f l (closing k n ∷ hs) = last_label_lem f l hs

array_after_lem : (hs : List Header) (own : ℕ) → array_after (first_seen hs) own ≡ array_for hs own
array_after_lem [] own = refl
array_after_lem (label x a ∷ hs) own = refl
array_after_lem (counters cs ∷ hs) own = refl
array_after_lem (zone_reset z n ∷ hs) own = refl
array_after_lem (partial_parity z s i n ∷ hs) own = refl
array_after_lem (seal z p n ∷ hs) own = refl
array_after_lem (closing k n ∷ hs) own = refl

relabelled_is : (hs : List Header) (l : Found) → label_of (relabelled (first_seen hs) l) ≡ label_by (array_for hs) l
relabelled_is hs Bad = refl
relabelled_is hs (Label x a) = ap (λ (n : ℕ). label x n ∷ []) (array_after_lem hs a)
relabelled_is hs Counters = refl
relabelled_is hs (Resets z n) = refl
relabelled_is hs (Partial z s f n) = refl
relabelled_is hs (Seal z p n) = refl
relabelled_is hs (Closing gen) = refl

pub label_kept_lem : (hs : List Header) → label_of (label_kept hs) ≡ kept_label hs
unfolding label_kept
label_kept_lem hs = relabelled_is hs (last_label_seen Bad hs) ∙ last_label_lem (array_for hs) Bad hs

-- ---- it names a drive, or none: a number that a label has room for
abbrev pub LabelFits : Found → Type 0
LabelFits Bad = Unit {0}
LabelFits (Label x a) = x < 256
LabelFits Counters = Unit {0}
LabelFits (Resets z n) = Unit {0}
LabelFits (Partial z s f n) = Unit {0}
LabelFits (Seal z p n) = Unit {0}
LabelFits (Closing gen) = Unit {0}

abbrev lost_seen : Found → ℕ
lost_seen Bad = no_drive
lost_seen (Label x a) = x
lost_seen Counters = no_drive
lost_seen (Resets z n) = no_drive
lost_seen (Partial z s f n) = no_drive
lost_seen (Seal z p n) = no_drive
lost_seen (Closing gen) = no_drive

lost_seen_lem : (l : Found) (hs : List Header) → lost_seen (last_label_seen l hs) ≡ last_lost (lost_seen l) hs
lost_seen_lem l [] = refl
lost_seen_lem l (label x a ∷ hs) = lost_seen_lem (Label x a) hs
lost_seen_lem l (counters cs ∷ hs) = lost_seen_lem l hs
lost_seen_lem l (zone_reset z n ∷ hs) = lost_seen_lem l hs
lost_seen_lem l (partial_parity z s i n ∷ hs) = lost_seen_lem l hs
lost_seen_lem l (seal z p n ∷ hs) = lost_seen_lem l hs
lost_seen_lem l (closing k n ∷ hs) = lost_seen_lem l hs

relabelled_fits : (g : Geometry) (first l : Found) → g.drives ≤ 8 → NamesDrive g (lost_seen l) → LabelFits (relabelled first l)
relabelled_fits g first Bad h n = tt
relabelled_fits g first (Label x a) h (inl k) = omega (arith, k)
relabelled_fits g first (Label x a) h (inr k) = omega (arith, k)
relabelled_fits g first Counters h n = tt
relabelled_fits g first (Resets z m) h n = tt
relabelled_fits g first (Partial z s f m) h n = tt
relabelled_fits g first (Seal z p m) h n = tt
relabelled_fits g first (Closing gen) h n = tt

pub label_fits : (g : Geometry) (d : ℕ) (ss : List (List ℕ)) → g.drives ≤ 8 → LabelFits (label_kept (heads_of (walk_log g d false ss)))
unfolding label_kept
label_fits g d ss h =
    let hs = heads_of (walk_log g d false ss) in
    relabelled_fits g (first_seen hs) (last_label_seen Bad hs) h (rw (lost_seen_lem Bad hs) (lost_names g d ss))

-- ---- a fold finds it
pub last_label_fold : (g : Geometry) (p : ℕ) (l : Found) (hs : List Header) → fold_heads g (λ l p f. later_label f l) p l hs ≡ last_label_seen l hs
last_label_fold g p l [] = refl
last_label_fold g p l (h ∷ hs) = last_label_fold g (p + suc (rows_of g h)) (later_label (seen h) l) hs
