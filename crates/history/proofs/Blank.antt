-- A log with the catalog's root alone stands for the empty database.
use Rattle.std.proofs.Common.{◌≡◌, ℕ, zero, suc, ◌-◌, Bool, true, false, None, List, [], if◌then◌else◌, arith, refl, sym, ap, ◌∙◌}
use Rattle.std.specs.Str.{bytes_eq}
use Rattle.sql_database.specs.Database.{empty}
use Rattle.version_store.specs.Contents.{Content, at_root, catalog_name, chain_of}
use Rattle.version_store.specs.Stores.{Store, blank, catalog}
use Rattle.version_store.specs.Versions.{newest_stamp, seen}
use Rattle.history.specs.Laws.{BootsFrom}
use Rattle.history.specs.Sound.{at_least}
use Rattle.history.specs.Timelines.{content_after, latest_after}

abbrev pub nothing : Content
nothing a k = None

chain_blank : (a k : List ℕ) → chain_of blank a k ≡ []
chain_blank a k = by_name (bytes_eq a catalog_name)
  where
    by_name : (b : Bool) → (if b then Store.rows blank catalog k else at_root (Store.rows blank) None k) ≡ []
    by_name true = refl
    by_name false = refl

content_blank : (n : ℕ) (a k : List ℕ) → content_after nothing (λ n. []) 0 n a k ≡ None
content_blank zero a k = refl
content_blank (suc n) a k = content_blank n a k

latest_blank : (n : ℕ) (a k : List ℕ) → latest_after (λ n. []) 0 n a k ≡ 0
latest_blank zero a k = refl
latest_blank (suc n) a k = latest_blank n a k

pub blank_boots : BootsFrom nothing empty 0 blank
blank_boots = record {
  base_is = record {
    tables = λ a. refl;
    rows = λ a nw. (tt, λ k. refl);
    none = λ a k nw e. refl;
    free = refl;
    bare = refl;
  };
  sound = record {
    held = record {
      bound = λ t. omega arith;
      fresh = λ t l. refl;
      unused = λ t r k l. refl;
      open_stamp = λ s t e. refl;
      open_below = λ s t e. absurd (grind arith);
      unique = λ s u t e f. absurd (grind arith);
      owned = λ r k. tt;
      undoes = λ s t r k e. absurd (grind arith);
    };
    rooted = record {
      lone = λ a. tt;
      differ = λ a b r e f. absurd (grind arith);
      low = omega arith;
      made = λ a r e. absurd (grind arith);
      empty = λ r k l. refl;
      closed = λ a k r t e o. absurd o;
      order = λ s t e. absurd (grind arith);
    };
    low = omega arith;
    read = λ n f l a k. ap (λ vs. seen vs (λ t. 0) n None) (chain_blank a k) ∙ sym (content_blank (n - 0) a k);
    newest = λ a k. ap (λ vs. at_least 0 (newest_stamp vs (λ t. 0))) (chain_blank a k)
        ∙ sym (latest_blank (0 - 0) a k);
  };
  last = refl;
  free = λ s. refl;
}
