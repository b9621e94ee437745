-- For the proofs: what becomes, with each entry, of an account that tells of a table machine.
use Rattle.std.proofs.Common.{◌≡◌, ◌≢◌, ◌+◌, ℕ, List, [], ◌∷◌, ◌++◌, length, Some, refl, sym, ap, subst, ◌∙◌}
use Rattle.table_machine.specs.Language.{Language}
use Rattle.table_machine.specs.Machine.{Machine}
use Rattle.table_machine.specs.Moves as move
use Rattle.session_state.specs.declared.queue.Queued.{Queued}
use Rattle.session_state.specs.Laws.{rest, with_queue, with_row}
use Rattle.session_state.specs.Rows as row
use Rattle.session_state.specs.Telling.{Tells}
use Rattle.session_state.proofs.Entries.{enqueue_tells, exec_tells, join_tells, settle_tells, snap_tells, start_tells, submit_tells}
use Rattle.session_state.proofs.Replies.{reply_tells}
use Rattle.cluster_core.specs.Ledgers.{Account, behind, next_stamp}
use Rattle.cluster_core.specs.LedgerLaws.{EnqueueIsTold, ExecIsTold, IsTold, JoinIsTold, ReplyIsTold, SettleIsTold, SnapIsTold, StartIsTold, SubmitIsTold, UseIsTold, table_of}

pub start_is_told : (language : Language) → StartIsTold language
start_is_told language nodes first base a e = record {
  table = start_tells language nodes first base (table_of a) (ap (λ (x : Account). x.sessions) e) (ap (λ (x : Account). x.queue) e);
  published = ap (λ (x : Account). x.published) e;
}

pub join_is_told : (language : Language) → JoinIsTold language
join_is_told language m a name n t =
    let h = join_tells language m (table_of a) name n t.table in
    (h.0, record { table = h.1; published = t.published })

pub submit_is_told : (language : Language) → SubmitIsTold language
submit_is_told language m a s row text read t g up there =
    let h = submit_tells language m (table_of a) s row text read a.submitted (length a.uses) g up there in
    (h.0, record { table = h.1; published = t.published })

pub snap_is_told : (language : Language) → SnapIsTold language
snap_is_told language m a s t may =
    let h = snap_tells language m (table_of a) s t.table may in (
      h.0,
      record {
        table = subst (λ (x : ℕ). Tells language (move.snapped m s) (with_row (table_of a) s (row.snapped x))) (sym t.published) h.1;
        published = t.published;
      },
    )

pub exec_is_told : (language : Language) → ExecIsTold language
exec_is_told language m new a s t h = record {
  table = exec_tells language m new (table_of a) s t.table h;
  published = t.published ∙ sym (ap (λ (x : Machine). x.count) h.4);
}

pub enqueue_is_told : (language : Language) → EnqueueIsTold language
enqueue_is_told language m new a s end t h =
    let g = enqueue_tells language m new (table_of a) s end t.table h in
    let e : m.count + m.waiting + 1 ≡ next_stamp a = sym (ap (λ (x : ℕ). x + length a.queue + 1) t.published ∙ ap (λ (x : ℕ). m.count + x + 1) t.table.waiting) in record {
      table = subst (λ (x : ℕ). Tells language new (with_queue (with_row (table_of a) s row.enqueued) (a.queue ++ (record { owner = Some s; stamp = x; end = end }) ∷ []))) e g;
      published = t.published ∙ sym (ap (λ (x : Machine). x.count) h.2);
    }

same_rest : (items : List Queued) → rest items ≡ behind items
same_rest [] = refl
same_rest (item ∷ items) = refl

pub settle_is_told : (language : Language) → SettleIsTold language
settle_is_told language m new a t h = record {
  table = subst (λ (x : List Queued). Tells language new (with_queue (table_of a) x)) (same_rest a.queue) (settle_tells language m new (table_of a) t.table h);
  published = ap (λ (x : ℕ). x + 1) t.published ∙ sym (ap (λ (x : Machine). x.count) h.3);
}

pub reply_is_told : (language : Language) → ReplyIsTold language
reply_is_told language m new a s r t h = record {
  table = reply_tells language m new (table_of a) s r t.table h;
  published = t.published ∙ sym (ap (λ (x : Machine). x.count) h.1);
}

pub use_is_told : (language : Language) → UseIsTold language
use_is_told language m a s page lsn origin t = record { table = t.table; published = t.published }
