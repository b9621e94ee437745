-- The bytes of columns and tables are theirs alone.
use Rattle.std.proofs.Common.{◌≡◌, ◌<◌, ◌≤◌, ◌+◌, ◌-◌, ℕ, zero, suc, List, [], ◌∷◌, ◌++◌, length, take, drop, slice_index, refl, sym, ◌∙◌, ap, subst, arith}
use Rattle.std.specs.List.{AllByRecursion}
use Rattle.std.proofs.lemmas.List.{take-append-drop}
use Rattle.std.proofs.Math.Seq.{drop-cons}
use Rattle.rm_base.specs.Fields.{field, number, AreBytes}
use Rattle.rm_base.proofs.FieldLaws.{length-field, number-field, number-lt, field-number}
use Rattle.sql_values.specs.Tables.{IsNamed}
use Rattle.sql_values.specs.declared.values.Value.TheVariants.{Text}
use Rattle.sql_values.specs.declared.values.Sort.{Sort}
use Rattle.sql_values.specs.declared.values.Sort.TheVariants as sort
use Rattle.sql_values.specs.declared.schemas.Column.{Column}
use Rattle.sql_values.specs.declared.schemas.Schema.{Schema}
use Rattle.sql_catalog.specs.Catalog.{sort_number, column_bytes, columns_bytes, schema_bytes, AreBounded, OneTable}

one_sort : (a b : Sort) → sort_number a ≡ sort_number b → a ≡ b
one_sort sort.Int sort.Int e = refl
one_sort sort.Int sort.Text e = absurd (omega (arith, e))
one_sort sort.Text sort.Int e = absurd (omega (arith, e))
one_sort sort.Text sort.Text e = refl

head_is : (a b : ℕ) (xs ys : List ℕ) → a ∷ xs ≡ b ∷ ys → a ≡ b
head_is a b xs ys e = cc

tail_is : (a b : ℕ) (xs ys : List ℕ) → a ∷ xs ≡ b ∷ ys → xs ≡ ys
tail_is a b xs ys e = cc

-- lists of one length in front of others
pub front_is : (fs gs xs ys : List ℕ) → length fs ≡ length gs → fs ++ xs ≡ gs ++ ys → (fs ≡ gs) × (xs ≡ ys)
front_is [] [] xs ys l e = (refl, e)
front_is [] (g ∷ gs) xs ys l e = absurd (omega (arith, l))
front_is (f ∷ fs) [] xs ys l e = absurd (omega (arith, l))
front_is (f ∷ fs) (g ∷ gs) xs ys l e =
    let r = front_is fs gs xs ys (omega (arith, l)) (tail_is f g (fs ++ xs) (gs ++ ys) e) in
    (ap (λ (x : ℕ). x ∷ fs) (head_is f g (fs ++ xs) (gs ++ ys) e) ∙ ap (λ (q : List ℕ). g ∷ q) r.0, r.1)

regroup : (name : List ℕ) (s : ℕ) (rest : List ℕ) → (name ++ s ∷ []) ++ rest ≡ name ++ s ∷ rest
regroup [] s rest = refl
regroup (x ∷ xs) s rest = ap (λ (q : List ℕ). x ∷ q) (regroup xs s rest)

pub one_column : (c d : Column) (x y : List ℕ) → column_bytes c ++ x ≡ column_bytes d ++ y → (c ≡ d) × (x ≡ y)
one_column c d x y e =
    let lengths : length c.name ≡ length d.name = head_is (length c.name) (length d.name) ((c.name ++ sort_number c.sort ∷ []) ++ x) ((d.name ++ sort_number d.sort ∷ []) ++ y) e in
    let rest : (c.name ++ sort_number c.sort ∷ []) ++ x ≡ (d.name ++ sort_number d.sort ∷ []) ++ y =
    tail_is (length c.name) (length d.name) ((c.name ++ sort_number c.sort ∷ []) ++ x) ((d.name ++ sort_number d.sort ∷ []) ++ y) e in
    let joined : c.name ++ sort_number c.sort ∷ x ≡ d.name ++ sort_number d.sort ∷ y = sym (regroup c.name (sort_number c.sort) x) ∙ (rest ∙ regroup d.name (sort_number d.sort) y) in
    let names = front_is c.name d.name (sort_number c.sort ∷ x) (sort_number d.sort ∷ y) lengths joined in
    let sorts : c.sort ≡ d.sort = one_sort c.sort d.sort (head_is (sort_number c.sort) (sort_number d.sort) x y names.1) in (
      ap (λ (n : List ℕ). record { name = n; sort = c.sort }) names.0 ∙ ap (λ (s : Sort). record { name = d.name; sort = s }) sorts,
      tail_is (sort_number c.sort) (sort_number d.sort) x y names.1,
    )

append_assoc : (a b c : List ℕ) → (a ++ b) ++ c ≡ a ++ (b ++ c)
append_assoc [] b c = refl
append_assoc (x ∷ a) b c = ap (λ (q : List ℕ). x ∷ q) (append_assoc a b c)

-- columns that begin others
pub begins : (done cs : List Column) (left : List ℕ) → columns_bytes done ++ left ≡ columns_bytes cs → length done ≤ length cs
    → (more : List Column) × (cs ≡ done ++ more) × (left ≡ columns_bytes more)
begins [] cs left e h = (cs, refl, e)
begins (d ∷ done) [] left e h = absurd (omega (arith, h))
begins (d ∷ done) (c ∷ cs) left e h =
    let joined : column_bytes d ++ (columns_bytes done ++ left) ≡ column_bytes c ++ columns_bytes cs = sym (append_assoc (column_bytes d) (columns_bytes done) left) ∙ e in
    let one = one_column d c (columns_bytes done ++ left) (columns_bytes cs) joined in
    let r = begins done cs left one.1 (omega (arith, h)) in
    (r.0, ap (λ (x : Column). x ∷ cs) (sym one.0) ∙ ap (λ (q : List Column). d ∷ q) r.1, r.2)

nil : (xs : List ℕ) → xs ++ [] ≡ xs
nil [] = refl
nil (x ∷ xs) = ap (λ (q : List ℕ). x ∷ q) (nil xs)

nil_columns : (xs : List Column) → xs ++ [] ≡ xs
nil_columns [] = refl
nil_columns (x ∷ xs) = ap (λ (q : List Column). x ∷ q) (nil_columns xs)

none : (xs : List Column) → length xs ≡ 0 → xs ≡ []
none [] h = refl
none (x ∷ xs) h = absurd (omega (arith, h))

length_app : (xs ys : List Column) → length (xs ++ ys) ≡ length xs + length ys
length_app [] ys = omega arith
length_app (x ∷ xs) ys = omega (arith, length_app xs ys)

-- as many columns of the same bytes are the same
pub all_columns : (cs ds : List Column) → length cs ≡ length ds → columns_bytes cs ≡ columns_bytes ds → cs ≡ ds
all_columns cs ds l e =
    let r = begins cs ds [] (nil (columns_bytes cs) ∙ e) (omega (arith, l)) in
    sym (r.1 ∙ (ap (λ (q : List Column). cs ++ q) (none r.0 (omega (arith, ap length r.1, length_app cs r.0, l))) ∙ nil_columns cs))

same_field : (p q : ℕ) → p ≤ 32767 → q ≤ 32767 → field 4 p ≡ field 4 q → p ≡ q
same_field p q a b e =
    sym (number-field 4 p [] (omega (arith, a))) ∙ (ap (λ (xs : List ℕ). number 4 (xs ++ [])) e ∙ number-field 4 q [] (omega (arith, b)))

-- the columns, the key and the root of a spelling
pub one_schema : (s t : Schema) (p q : ℕ) → AreBounded s p → AreBounded t q → schema_bytes s p ≡ schema_bytes t q
    → (s.columns ≡ t.columns) × (s.key ≡ t.key) × (p ≡ q)
one_schema s t p q a b e =
    let front = front_is (field 4 p) (field 4 q) (s.key ∷ (length s.columns ∷ columns_bytes s.columns)) (t.key ∷ (length t.columns ∷ columns_bytes t.columns))
    (length-field 4 p ∙ sym (length-field 4 q)) e in
    let key : s.key ≡ t.key = head_is s.key t.key (length s.columns ∷ columns_bytes s.columns) (length t.columns ∷ columns_bytes t.columns) front.1 in
    let behind = tail_is s.key t.key (length s.columns ∷ columns_bytes s.columns) (length t.columns ∷ columns_bytes t.columns) front.1 in
    let count : length s.columns ≡ length t.columns = head_is (length s.columns) (length t.columns) (columns_bytes s.columns) (columns_bytes t.columns) behind in
    let bytes : columns_bytes s.columns ≡ columns_bytes t.columns = tail_is (length s.columns) (length t.columns) (columns_bytes s.columns) (columns_bytes t.columns) behind in
    (all_columns s.columns t.columns count bytes, key, same_field p q a.page b.page front.0)

-- the bytes of a table's row begin with a root's page, a key and a number of columns
pub parted : (bytes : List ℕ) → AreBytes bytes → 6 ≤ length bytes
    → bytes ≡ field 4 (number 4 bytes) ++ (slice_index bytes 4 ∷ (slice_index bytes 5 ∷ drop 6 bytes))
parted bytes bs h =
    let front : field 4 (number 4 bytes) ≡ take 4 bytes = field-number 4 bytes bs (omega (arith, h)) in
    let fourth : drop 4 bytes ≡ slice_index bytes 4 ∷ drop 5 bytes = drop-cons bytes 4 0 (omega (arith, h)) in
    let fifth : drop 5 bytes ≡ slice_index bytes 5 ∷ drop 6 bytes = drop-cons bytes 5 0 (omega (arith, h)) in
    sym (ap (λ (q : List ℕ). q ++ (slice_index bytes 4 ∷ (slice_index bytes 5 ∷ drop 6 bytes))) front
    ∙ (ap (λ (q : List ℕ). take 4 bytes ++ (slice_index bytes 4 ∷ q)) (sym fifth)
    ∙ (ap (λ (q : List ℕ). take 4 bytes ++ q) (sym fourth) ∙ take-append-drop 4 bytes)))

-- what a spelling's parts are
pub record PartsOf (bytes : List ℕ) (s : Schema) (root : ℕ) : Type 0 where
  pub root_is : number 4 bytes ≡ root
  pub key_is : slice_index bytes 4 ≡ s.key
  pub count_is : slice_index bytes 5 ≡ length s.columns
  pub columns_are : drop 6 bytes ≡ columns_bytes s.columns

pub parts_of : (bytes : List ℕ) (s : Schema) (root : ℕ) → AreBytes bytes → 6 ≤ length bytes → root ≤ 32767 → bytes ≡ schema_bytes s root → PartsOf bytes s root
parts_of bytes s root bs h bound e =
    let k : ℕ = slice_index bytes 4 in
    let c : ℕ = slice_index bytes 5 in
    let p = front_is (field 4 (number 4 bytes)) (field 4 root) (k ∷ (c ∷ drop 6 bytes)) (s.key ∷ (length s.columns ∷ columns_bytes s.columns))
    (length-field 4 (number 4 bytes) ∙ sym (length-field 4 root)) (sym (parted bytes bs h) ∙ e) in
    let behind = tail_is k s.key (c ∷ drop 6 bytes) (length s.columns ∷ columns_bytes s.columns) p.1 in
    record {
      root_is = sym (number-field 4 (number 4 bytes) [] (number-lt 4 bytes bs)) ∙ (ap (λ (xs : List ℕ). number 4 (xs ++ [])) p.0 ∙ number-field 4 root [] (omega (arith, bound)));
      key_is = head_is k s.key (c ∷ drop 6 bytes) (length s.columns ∷ columns_bytes s.columns) p.1;
      count_is = head_is c (length s.columns) (drop 6 bytes) (columns_bytes s.columns) behind;
      columns_are = tail_is c (length s.columns) (drop 6 bytes) (columns_bytes s.columns) behind;
    }

parts_length : (front : List ℕ) (k c : ℕ) (rest : List ℕ) → length (front ++ (k ∷ (c ∷ rest))) ≡ length front + (2 + length rest)
parts_length [] k c rest = omega arith
parts_length (x ∷ front) k c rest = omega (arith, parts_length front k c rest)

-- no spelling is shorter
pub too_short : (bytes : List ℕ) (s : Schema) (root : ℕ) → length bytes < 6 → bytes ≡ schema_bytes s root → ⊥
too_short bytes s root h e = omega (arith, h, ap length e, parts_length (field 4 root) s.key (length s.columns) (columns_bytes s.columns), length-field 4 root)

-- the parts make the spelling
pub made_of : (bytes : List ℕ) (s : Schema) (root : ℕ) → AreBytes bytes → 6 ≤ length bytes → number 4 bytes ≡ root → slice_index bytes 4 ≡ s.key
    → length s.columns ≡ slice_index bytes 5 → drop 6 bytes ≡ columns_bytes s.columns → bytes ≡ schema_bytes s root
made_of bytes s root bs h r k c cs =
    parted bytes bs h ∙ (ap (λ (n : ℕ). field 4 n ++ (slice_index bytes 4 ∷ (slice_index bytes 5 ∷ drop 6 bytes))) r
    ∙ (ap (λ (n : ℕ). field 4 root ++ (n ∷ (slice_index bytes 5 ∷ drop 6 bytes))) k
    ∙ (ap (λ (n : ℕ). field 4 root ++ (s.key ∷ (n ∷ drop 6 bytes))) (sym c)
    ∙ ap (λ (q : List ℕ). field 4 root ++ (s.key ∷ (length s.columns ∷ q))) cs)))

all_right : (xs ys : List Column) → AllByRecursion IsNamed (xs ++ ys) → AllByRecursion IsNamed ys
all_right [] ys a = a
all_right (x ∷ xs) ys a = all_right xs ys a.1

dropped_length : (n : ℕ) (xs : List ℕ) → length (drop n xs) ≡ length xs - n
dropped_length zero xs = omega arith
dropped_length (suc n) [] = omega arith
dropped_length (suc n) (x ∷ xs) = omega (arith, dropped_length n xs)

-- where more columns are to come, the bytes left begin with one
pub one_more : (bytes : List ℕ) (at : ℕ) (done cs : List Column) → bytes ≡ columns_bytes done ++ drop at bytes → AllByRecursion IsNamed cs
    → bytes ≡ columns_bytes cs → length done < length cs → (c : Column) × (rest : List ℕ) × IsNamed c × (drop at bytes ≡ column_bytes c ++ rest)
one_more bytes at done cs so_far named e h =
    let r = begins done cs (drop at bytes) (sym so_far ∙ e) (omega (arith, h)) in
    first r.0 (subst (AllByRecursion IsNamed) r.1 named) (omega (arith, h, ap length r.1, length_app done r.0)) r.2
  where
    first : (more : List Column) → AllByRecursion IsNamed (done ++ more) → 0 < length more → drop at bytes ≡ columns_bytes more
        → (c : Column) × (rest : List ℕ) × IsNamed c × (drop at bytes ≡ column_bytes c ++ rest)
    first [] all h q = absurd (omega (arith, h))
    first (c ∷ cs) all h q = let a = all_right done (c ∷ cs) all in (c, columns_bytes cs, a.0, q)

-- where no column is to come, no byte is left
pub none_left : (bytes : List ℕ) (at : ℕ) (done cs : List Column) → bytes ≡ columns_bytes done ++ drop at bytes → bytes ≡ columns_bytes cs
    → length done ≡ length cs → at < length bytes → ⊥
none_left bytes at done cs so_far e l h =
    let r = begins done cs (drop at bytes) (sym so_far ∙ e) (omega (arith, l)) in
    let empty : r.0 ≡ [] = none r.0 (omega (arith, l, ap length r.1, length_app done r.0)) in
    omega (arith, h, dropped_length at bytes, ap length (r.2 ∙ ap columns_bytes empty))

-- the rest of the bytes, as a part
pub rest_from : (n : ℕ) (xs : List ℕ) → take (length xs - n) (drop n xs) ≡ drop n xs
rest_from n xs = all_of (length xs - n) (drop n xs) (omega (arith, dropped_length n xs))
  where
    all_of : (m : ℕ) (ys : List ℕ) → length ys ≤ m → take m ys ≡ ys
    all_of zero [] h = refl
    all_of zero (y ∷ ys) h = absurd (omega (arith, h))
    all_of (suc m) [] h = refl
    all_of (suc m) (y ∷ ys) h = ap (λ (q : List ℕ). y ∷ q) (all_of m ys (omega (arith, h)))

pub one_table : OneTable
one_table s t p q a b e =
    let tables : s.table ≡ t.table = first_is s.table t.table (schema_bytes s p) (schema_bytes t q) e in
    let bytes : schema_bytes s p ≡ schema_bytes t q = second_is s.table t.table (schema_bytes s p) (schema_bytes t q) e in
    let r = one_schema s t p q a b bytes in (
      ap (λ (n : List ℕ). record { table = n; columns = s.columns; key = s.key }) tables
          ∙ (ap (λ (cs : List Column). record { table = t.table; columns = cs; key = s.key }) r.0 ∙ ap (λ (k : ℕ). record { table = t.table; columns = t.columns; key = k }) r.1),
      r.2,
    )
  where
    first_is : (a b x y : List ℕ) → (Text a ∷ (Text x ∷ [])) ≡ (Text b ∷ (Text y ∷ [])) → a ≡ b
    first_is a b x y e = cc

    second_is : (a b x y : List ℕ) → (Text a ∷ (Text x ∷ [])) ≡ (Text b ∷ (Text y ∷ [])) → x ≡ y
    second_is a b x y e = cc
