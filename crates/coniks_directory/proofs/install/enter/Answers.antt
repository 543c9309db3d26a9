use Rattle.std.proofs.Common.{◌∙◌, ap, arith, length, sym, subst, List}
use Rattle.coniks_chain.specs.declared.entry.Entry.{Entry}
use Rattle.coniks_directory.proofs.Words.{IsEntered, Leaves, State, before_at, link_before, state_of}
use Rattle.coniks_directory.specs.Installed.{Attached, IsAttached}
use Rattle.coniks_directory.proofs.HeadLemmas.{link_of_last}
use Rattle.coniks_directory.proofs.InstallLemmas.{attached_next, installed_is, left_next}
use Rattle.coniks_directory.proofs.install.enter.Goals as goal

pub returns-clause-attached : goal.returns-clause-attached
returns-clause-attached g c = λ s is index_of holds u.
    let hash = g.H.Hash32.digest_of c.args.h.now in
    let stored = c.args.stored.now in
    let p = c.args.update in
    let root = c.attach-root.result in
    let e = c.attach-root.ensures in
    let later = state_of (record stored { tree = c.attach-root.new.self; epochs = c.put_epoch.new.epochs; chain = c.put_entry.new.chain }) in
    let same = installed_is (state_of stored) p root c.args.t _ c.args.signed.entry later.nodes later.records later.epochs later.chain e.records c.records-count.ensures.count c.put_epoch.ensures
    c.put_entry.ensures in
    let attached : IsAttached hash (state_of stored) later p c.args.t c.args.signed.entry = λ index_of holds u.
    subst (λ (z : State). Attached hash index_of (state_of stored) z p c.args.t c.args.signed.entry) (sym same)
    (attached_next hash index_of (state_of stored) holds p u c.args.t c.args.signed.entry later.nodes root (omega (arith, e.nodes)) e.older e.known (λ es stands. rw e.records at (e.shows es stands))) in
    subst (λ (z : State). IsAttached hash z later p c.args.t c.args.signed.entry) is attached index_of holds u

pub returns-clause-entered : goal.returns-clause-entered
returns-clause-entered g c = λ s is index_of whole u after body.
    let hash = g.H.Hash32.digest_of c.args.h.now in
    let stored = c.args.stored.now in
    let p = c.args.update in
    let root = c.attach-root.result in
    let e = c.attach-root.ensures in
    let later = state_of (record stored { tree = c.attach-root.new.self; epochs = c.put_epoch.new.epochs; chain = c.put_entry.new.chain }) in
    let same = installed_is (state_of stored) p root c.args.t _ c.args.signed.entry later.nodes later.records later.epochs later.chain e.records c.records-count.ensures.count c.put_epoch.ensures
    c.put_entry.ensures in
    let entered : IsEntered hash (state_of stored) later p c.args.t c.args.signed.entry = λ index_of whole u after
    body. subst (λ (z : State). Leaves hash index_of (state_of stored) z p c.args.t c.args.signed.entry) (sym same)
    (left_next hash index_of (state_of stored) whole p u c.args.t after c.args.signed.entry body later.nodes root
    (attached_next hash index_of (state_of stored) whole.stored p u c.args.t c.args.signed.entry later.nodes root (omega (arith, e.nodes)) e.older e.known (λ es stands. rw e.records at (e.shows es stands)))) in
    subst (λ (z : State). IsEntered hash z later p c.args.t c.args.signed.entry) is entered index_of whole u after body

pub returns-clause-linked : goal.returns-clause-linked
returns-clause-linked g c =
    let hash = g.H.Hash32.digest_of c.args.h.now in
    let before = c.args.stored.now.before in
    c.requires.link
    ∙ sym (ap (λ (chain : List Entry). link_before (before_at hash before chain (length chain))) c.put_entry.ensures ∙ link_of_last hash before c.args.stored.now.chain.items c.args.signed.entry)
