-- Commits on an opened directory.
use Rattle.std.proofs.Common.{◌≡◌, ◌≢◌, ◌<◌, ◌≤◌, ◌+◌, ◌⊎◌, ℕ, suc, List, [], ◌∷◌, ◌++◌, length, length-append, map, Bool, true, false, refl, sym, ap, subst, ◌∙◌, arith, inl, inr, Option, Some, None, Result, Ok, Err}
use Rattle.std.specs.Prelude.{is_some, nat_le, nat_lt, IfOk, IfErr, OnOk, OnErr}
use Rattle.std.proofs.lemmas.Bool.{false≢true}
use Rattle.std.proofs.lemmas.Bool.Decides.{nat_tests}
use Rattle.coniks_proof.specs.Sha256.{sha256}
use Rattle.coniks_proof.specs.Batches.{Operation}
use Rattle.coniks_proof.specs.declared.values.Head.{Head}
use Rattle.coniks_proof.specs.declared.values.TheConstants.{MAX_OPERATIONS}
use Rattle.coniks_chain.specs.Chain.{Continues, GoodChain}
use Rattle.coniks_chain.specs.declared.auditor.AuditorState.{AuditorState}
use Rattle.coniks_chain.specs.Entries.{link_preimage}
use Rattle.coniks_chain.specs.declared.entry.Entry.{Entry}
use Rattle.coniks_directory.specs.Batches.{IsAccepted, operations}
use Rattle.coniks_threads.specs.Parallel.{AreWorkers}
use Rattle.coniks_directory.specs.Chain.{IsChainOf, head_at, heads_of}
use Rattle.coniks_directory.specs.History.{Shown, latest_epoch, latest_registry}
use Rattle.coniks_directory.specs.Installs.{IsCommitResult}
use Rattle.coniks_directory.specs.Runs.{Batch}
use Rattle.coniks_directory.specs.State.{State, View, history_of}
use Rattle.coniks_directory.specs.Updates.{Grows, IsCommitFault, MayInstall, commit_refusals}
use Rattle.coniks_directory.specs.declared.batch.BatchFault.TheVariants as batch
use Rattle.coniks_directory.specs.declared.batch.Op.{Op}
use Rattle.coniks_directory.specs.declared.update.CommitFault.{CommitFault}
use Rattle.coniks_directory.specs.declared.update.CommitFault.TheVariants.{Batch as OfBatch, Install}
use Rattle.coniks_directory.specs.declared.update.InstallFault.TheVariants as install
use Rattle.coniks_threads.specs.declared.jobs.TheConstants.{MAX_DEPTH}
use Rattle.coniks_tool.specs.Demo.{demo_index}
use Rattle.coniks_programs.specs.Refusals.{Refusal, epoch_not_later}
use Rattle.coniks_tool.specs.Refusals.{IsRefusedBy, refusal}
use Rattle.coniks_tool.specs.ScriptReplies.{because, installed}
use Rattle.coniks_tool.specs.Script.{Installs, ScriptDirectory, ScriptState as Stage, ScriptTurn, batch_on, batch_with, shown_next as shown_epoch}
use Rattle.coniks_programs.specs.Turns.{refused}
use Rattle.coniks_tool.specs.Seal.{is_seal}
use Rattle.coniks_tool.specs.Stores.{opened_by, opened_of, shown_on, script_state_of}
use Rattle.coniks_tool.specs.declared.run.store.Service.{Service}
use Rattle.coniks_tool.specs.Limits.{most_epochs}
use Rattle.coniks_tool.proofs.SealedLemmas.{entry_is}

-- an accepted batch isn't refused
accepted_is : (index_of : List ℕ → List ℕ) (history : List Shown) (epoch : ℕ) (ops : List Operation) (depth workers published : ℕ) → IsAccepted index_of (latest_registry history) ops depth workers
    → latest_epoch history < epoch → published ≢ most_epochs → published ≤ most_epochs → published ≡ length history → refusal index_of history epoch ops ≡ None
accepted_is index_of history epoch ops depth workers published a later room most same =
    let few : nat_le (length ops) MAX_OPERATIONS ≡ true = (let f = a.few in grind (arith, nat_tests)) in
    let rises : nat_lt (latest_epoch history) epoch ≡ true = grind (arith, nat_tests) in
    let fits : nat_lt (length history) most_epochs ≡ true = grind (arith, nat_tests) in
    rw (few, a.faultless, rises, fits) refl

-- a commit's error is the reason for which the batch is refused
pub refused_is : (index_of : List ℕ → List ℕ) (s : State) (ops : List Operation) (depth workers epoch published capacity : ℕ) (fault : CommitFault) → AreWorkers workers → depth ≤ MAX_DEPTH
    → published ≡ length (history_of s) → capacity ≡ most_epochs → 0 ≡ 0 + commit_refusals fault → IsCommitFault index_of s ops depth workers epoch published capacity fault
    → IsRefusedBy (refusal index_of (history_of s) epoch ops) fault
refused_is index_of s ops depth workers epoch published capacity (OfBatch batch.Workers) parallelism shallow long full signed f = none parallelism f
  where
    none : {n : ℕ} → AreWorkers n → (n ≡ 0) ⊎ (64 < n) → ⊥
    none parallelism (inl zero_is) = let least = parallelism.0 in omega arith
    none parallelism (inr more) = let most = parallelism.1 in omega arith
refused_is index_of s ops depth workers epoch published capacity (OfBatch batch.Depth) parallelism shallow long full signed f = let deep = f.1 in omega arith
refused_is index_of s ops depth workers epoch published capacity (OfBatch batch.BatchTooLong) parallelism shallow long full signed f =
    let many = f.2 in
    let off : nat_le (length ops) MAX_OPERATIONS ≡ false = grind (arith, nat_tests) in
    rw off refl
refused_is index_of s ops depth workers epoch published capacity (OfBatch (batch.At position fault)) parallelism shallow long full signed f =
    let few = f.2 in
    let on : nat_le (length ops) MAX_OPERATIONS ≡ true = grind (arith, nat_tests) in
    rw (on, f.3) refl
refused_is index_of s ops depth workers epoch published capacity (OfBatch batch.OutOfMemory) parallelism shallow long full signed f = tt
refused_is index_of s ops depth workers epoch published capacity (Install (install.Stale latest)) parallelism shallow long full signed f = f.1.1 refl
refused_is index_of s ops depth workers epoch published capacity (Install (install.EpochNotLater latest)) parallelism shallow long full signed f =
    let few = f.0.few in
    let on : nat_le (length ops) MAX_OPERATIONS ≡ true = grind (arith, nat_tests) in
    let same : latest ≡ latest_epoch (history_of s) = f.1.0 in
    let low : epoch ≤ latest = f.1.2 in
    let off : nat_lt (latest_epoch (history_of s)) epoch ≡ false = grind (arith, nat_tests) in
    rw (on, f.0.faultless, off) (ap (λ n. Some (epoch_not_later n)) (sym same))
refused_is index_of s ops depth workers epoch published capacity (Install install.BoardFull) parallelism shallow long full signed f =
    let few = f.0.few in
    let on : nat_le (length ops) MAX_OPERATIONS ≡ true = grind (arith, nat_tests) in
    let later = f.1.1 in
    let rises : nat_lt (latest_epoch (history_of s)) epoch ≡ true = grind (arith, nat_tests) in
    let all = f.1.2 in
    let off : nat_lt (length (history_of s)) most_epochs ≡ false = grind (arith, nat_tests) in
    rw (on, f.0.faultless, rises, off) refl
refused_is index_of s ops depth workers epoch published capacity (Install install.OutOfMemory) parallelism shallow long full signed f = tt
refused_is index_of s ops depth workers epoch published capacity (Install install.SignerRefused) parallelism shallow long full signed f = omega arith

-- the chain of a directory that begins with its first entry
pub from_first : (verdict : List ℕ → List ℕ → Bool) (s : State) → s.before ≡ None → Continues sha256 verdict s.before s.chain → GoodChain sha256 verdict s.chain
from_first verdict s begun good = subst (λ (b : Option AuditorState). Continues sha256 verdict b s.chain) begun good

pub to_first : (verdict : List ℕ → List ℕ → Bool) (s : State) → s.before ≡ None → GoodChain sha256 verdict s.chain → Continues sha256 verdict s.before s.chain
to_first verdict s begun good = subst (λ (b : Option AuditorState). Continues sha256 verdict b s.chain) (sym begun) good

-- a batch that was committed is installed
pub installs : (key key' : List ℕ) (s t : State) (b : Batch) (depth workers published capacity : ℕ) (entry : Entry) (verdict : List ℕ → List ℕ → Bool)
    → ((bytes signature : List ℕ) → verdict bytes signature ≡ is_seal key bytes signature) → key' ≡ key → Grows s t → history_of t ≡ history_of s ++ shown_on s b ∷ [] → t.chain ≡ s.chain ++ entry ∷ []
    → t.before ≡ None → IsChainOf sha256 (demo_index key') t.policy t.before (history_of t) t.chain → Continues sha256 verdict t.before t.chain
    → IsAccepted (demo_index key) (latest_registry (history_of s)) b.ops depth workers → MayInstall s (length s.epochs) b.t published capacity
    → published ≡ length (history_of s) → capacity ≡ most_epochs → published ≤ most_epochs
    → Installs (opened_by key s) b entry (opened_by key' t)
installs key key' s t b depth workers published capacity entry verdict own same_key grows history chain begun is good accepted may long full most =
    let shown = shown_on s b in
    let is' : IsChainOf sha256 (demo_index key) s.policy None (history_of s ++ shown ∷ []) (s.chain ++ entry ∷ []) =
    subst (λ (h : List Shown). IsChainOf sha256 (demo_index key) s.policy None h (s.chain ++ entry ∷ [])) history
    (subst (λ (es : List Entry). IsChainOf sha256 (demo_index key) s.policy None (history_of t) es) chain
    (subst (λ (p : List ℕ). IsChainOf sha256 (demo_index key) p None (history_of t) t.chain) grows.policy
    (subst (λ (k : List ℕ). IsChainOf sha256 (demo_index k) t.policy None (history_of t) t.chain) same_key
    (subst (λ (b : Option AuditorState). IsChainOf sha256 (demo_index key') t.policy b (history_of t) t.chain) begun is)))) in
    let good' : GoodChain sha256 verdict (s.chain ++ entry ∷ []) =
    subst (λ (es : List Entry). GoodChain sha256 verdict es) chain (from_first verdict t begun good) in
    let room : published ≢ most_epochs = subst (λ n. published ≢ n) full may.room in
    record {
      faultless = accepted_is (demo_index key) (history_of s) b.t b.ops depth workers published accepted may.next.later room most long;
      entry_is = entry_is key s.policy verdict own (history_of s) shown s.chain entry is' good';
      state_is = same_opened key' key t.nonce s.nonce t.policy s.policy (history_of t) (history_of s ++ shown ∷ []) same_key grows.nonce grows.policy history;
    }
  where
    same_opened : (k k' n n' p p' : List ℕ) (h h' : List Shown) → k ≡ k' → n ≡ n' → p ≡ p' → h ≡ h'
        → (let o : ScriptDirectory = record { key = k; nonce = n; policy = p; history = h } in o) ≡ (let o : ScriptDirectory = record { key = k'; nonce = n'; policy = p'; history = h' } in o)
    same_opened k k' n n' p p' h h' ek en ep eh = cc

length-map : {A B : Type 0} (f : A → B) (xs : List A) → length (map f xs) ≡ length xs
length-map f [] = refl
length-map f (x ∷ xs) = ap suc (length-map f xs)

-- as many heads are published as the chain has entries
pub as_many : (heads : List Head) (chain : List Entry) → heads ≡ heads_of sha256 chain → length heads ≡ length chain
as_many heads chain same = ap length same ∙ length-map (head_at sha256) chain

-- what follows from a property of a commit's entry holds if there is one
pub on_ok : {T E : Type 0} (r : Result T E) (P : T → Type 0) (Q : Type 0) → ((x : T) → P x → Q) → IfOk r P → OnOk r Q
on_ok (Ok x) P Q follows is = follows x is
on_ok (Err e) P Q follows is = tt

pub if_ok : {T E : Type 0} (r : Result T E) (P Q : T → Type 0) → ((x : T) → P x → Q x) → IfOk r P → IfOk r Q
if_ok (Ok x) P Q follows is = follows x is
if_ok (Err e) P Q follows is = tt

-- after a commit there are as many signatures as entries, and at most as many as the board takes
pub made_and_room : {H X P : Type 0} (index : X → List ℕ → List ℕ) (result : Result Entry CommitFault) (v v' : View H X) (p p' : P) (ops : List Op)
    (made made' refused refused' depth workers epoch published capacity : ℕ) (last last' : Option Entry)
    → OnOk result (made' ≡ made + 1) → IfOk result (λ e. v'.state.chain ≡ v.state.chain ++ e ∷ [])
    → IsCommitResult index v ops depth workers epoch published capacity result
    → IfErr result (λ fault. (made' ≡ made) × (refused' ≡ refused + commit_refusals fault) × (last' ≡ last)) → OnErr result ((v' ≡ v) × (p' ≡ p))
    → made ≡ length v.state.chain → length v.state.chain ≤ most_epochs → published ≡ length v.state.chain
    → capacity ≡ most_epochs → (made' ≡ length v'.state.chain) × (length v'.state.chain ≤ most_epochs)
made_and_room {H} {X} {P} index (Ok e) v v' p p' ops made made' refused refused' depth workers epoch published capacity last last' one more outcome retained same own most long full =
    let longer : length v'.state.chain ≡ length v.state.chain + 1 = ap length more ∙ length-append v.state.chain (e ∷ []) in
    let room : published ≢ most_epochs = subst (λ n. published ≢ n) full outcome.may.room in
    (omega arith, below (length v.state.chain) (length v'.state.chain) longer most (λ at. room (long ∙ at)))
  where
    below : (n m : ℕ) → m ≡ n + 1 → n ≤ 1024 → (n ≡ 1024 → ⊥) → m ≤ 1024
    below n m next most apart = grind (arith, nat_tests)
made_and_room {H} {X} {P} index (Err e) v v' p p' ops made made' refused refused' depth workers epoch published capacity last last' one more outcome retained same own most long full =
    let long' : length v'.state.chain ≡ length v.state.chain = ap (λ (w : View H X). length w.state.chain) same.0 in
    (retained.0 ∙ own ∙ sym long', omega arith)

-- any error of a commit
pub refused_by : {H X P : Type 0} (index : X → List ℕ → List ℕ) (index_of' : List ℕ → List ℕ) (v v' : View H X) (p p' : P) (ops : List Op)
    (depth workers epoch published capacity made made' : ℕ) (last last' : Option Entry) (result : Result Entry CommitFault) → AreWorkers workers → depth ≤ MAX_DEPTH
    → published ≡ length v.state.chain → capacity ≡ most_epochs → IfErr result (λ fault. (made' ≡ made) × (0 ≡ 0 + commit_refusals fault) × (last' ≡ last))
    → IsCommitResult index v ops depth workers epoch published capacity result
    → OnErr result ((v' ≡ v) × (p' ≡ p)) → IsChainOf sha256 index_of' v'.state.policy v'.state.before (history_of v'.state) v'.state.chain
    → IfErr result (IsRefusedBy (refusal (index v.index) (history_of v.state) epoch (operations ops)))
refused_by {H} {X} {P} index index_of' v v' p p' ops depth workers epoch published capacity made made' last last' (Ok e) parallelism shallow long full unsigned f same is = tt
refused_by {H} {X} {P} index index_of' v v' p p' ops depth workers epoch published capacity made made' last last' (Err fault) parallelism shallow long full unsigned f same is =
    let long' : length v.state.chain ≡ length (history_of v.state) = subst (λ (w : View H X). length w.state.chain ≡ length (history_of w.state)) same.0 is.long in
    refused_is (index v.index) v.state (operations ops) depth workers epoch published capacity fault parallelism shallow (long ∙ long') full unsigned.1 f

-- the batch of these operations
abbrev pub batch_by : ℕ → Option (List ℕ) → List Op → Batch
batch_by t new_nonce ops = record { t = t; new_nonce = new_nonce; ops = operations ops }

-- a commit's entry, if there is one
pub installed_by : {H : Type 0} (v v' : View H (List ℕ)) (new_nonce : Option (List ℕ)) (ops : List Op) (depth workers t published capacity : ℕ)
    (verdict : List ℕ → List ℕ → Bool) (result : Result Entry CommitFault)
    → ((bytes signature : List ℕ) → verdict bytes signature ≡ is_seal v.index bytes signature) → v'.index ≡ v.index → Grows v.state v'.state
    → OnOk result (history_of v'.state ≡ history_of v.state ++ shown_on v.state (batch_by t new_nonce ops) ∷ []) → IfOk result (λ entry. v'.state.chain ≡ v.state.chain ++ entry ∷ [])
    → v'.state.before ≡ None → IsChainOf sha256 (demo_index v'.index) v'.state.policy v'.state.before (history_of v'.state) v'.state.chain → Continues sha256 verdict v'.state.before v'.state.chain
    → IsCommitResult demo_index v ops depth workers t published capacity result
    → published ≡ length v.state.chain → capacity ≡ most_epochs → length v.state.chain ≤ most_epochs
    → IfOk result (λ entry. Installs (opened_by v.index v.state) (batch_by t new_nonce ops) entry (opened_by v'.index v'.state))
installed_by {H} v v' new_nonce ops depth workers t published capacity verdict (Err fault) own same_key grows history chain begun is good outcome long full most = tt
installed_by {H} v v' new_nonce ops depth workers t published capacity verdict (Ok entry) own same_key grows history chain begun is good outcome long full most =
    let b = batch_by t new_nonce ops in
    let entries : length v'.state.chain ≡ length v.state.chain + 1 = ap length chain ∙ length-append v.state.chain (entry ∷ []) in
    let epochs : length (history_of v'.state) ≡ length (history_of v.state) + 1 = ap length history ∙ length-append (history_of v.state) (shown_on v.state b ∷ []) in
    let long' : published ≡ length (history_of v.state) = (let both = is.long in omega arith) in
    let most' : published ≤ most_epochs = omega arith in
    installs v.index v'.index v.state v'.state b depth workers published capacity entry verdict own same_key grows history chain begun is good outcome.accepted outcome.may long' full most'

-- the turn of a batch that adds this entry
abbrev pub turn_of : Entry → ScriptDirectory → ScriptTurn
turn_of entry o = record { outcome = installed entry (sha256 (link_preimage entry)); state = Some o }

-- an installed batch
pub installed_turn : (o o' : ScriptDirectory) (b : Batch) (entry : Entry) (v : Stage) → v ≡ Some o → Installs o b entry o' → batch_with v b ≡ turn_of entry o'
installed_turn o o' b entry v same i =
    ap (λ (s : Stage). batch_with s b) same
    ∙ ap (batch_on o b) i.faultless
    ∙ ap (λ (e : Entry). turn_of e (record o { history = o.history ++ shown_epoch o b ∷ [] })) (sym i.entry_is)
    ∙ ap (turn_of entry) (sym i.state_is)

-- the reply to a refused batch gives the reason, and the state is unchanged
pub refused_turn : (o : ScriptDirectory) (b : Batch) (v : Stage) (reported : Refusal) → v ≡ Some o → refusal (demo_index o.key) o.history b.t b.ops ≡ Some reported
    → batch_with v b ≡ refused (Some o) (because reported)
refused_turn o b v reported same why = ap (λ (s : Stage). batch_with s b) same ∙ ap (batch_on o b) why

-- the view of an open store
pub shown_open : (opened : Option Service) (service : Service) (v : Stage) → Some service ≡ opened → script_state_of opened ≡ v → v ≡ Some (opened_of service)
shown_open opened service v same view = sym view ∙ ap script_state_of (sym same)

-- a service that isn't there is None
pub none_opened : (opened : Option Service) → is_some opened ≡ false → opened ≡ None
none_opened None off = refl
none_opened (Some s) off = absurd (false≢true (sym off))
