-- What is constant in a page.
use Rattle.std.specs.List.{concat}
use Rattle.std.specs.Prelude.{ℕ, List, [], ◌∷◌, codes}
use Rattle.rp_history.specs.declared.page.Form.{Form}
use Rattle.rp_history.specs.declared.page.Form.TheVariants.{Calls}

-- what is before the drawing: how the parts of a page look
abbrev pub before_drawing : List ℕ
before_drawing = concat (
    codes "<!DOCTYPE html>\n" ∷
    codes "<html lang='en'><head><meta charset='utf-8'><title>A run, moment by moment</title>\n" ∷
    codes "<meta name='viewport' content='width=device-width,initial-scale=1'>\n" ∷
    codes "<style>:root{color-scheme:light dark;--ink:#222;--paper:#fff;--line:#ccc;" ∷
    codes "--here:#fc0;--new:#ffec99}\n" ∷
    codes "@media(prefers-color-scheme:dark){\n" ∷
    codes ":root{--ink:#e6e6e6;--paper:#16181c;--line:#555;--here:#c90;--new:#5c4a00}}\n" ∷
    codes "body{margin:0;font-family:sans-serif;color:var(--ink);background:var(--paper)}\n" ∷
    codes "h2,pre,#tip{font-family:monospace}h2{font-size:15px;margin:8px 0}p{margin:4px 0}\n" ∷
    codes "pre{font-size:13px;margin:8px 0;white-space:pre-wrap;overflow-wrap:anywhere}\n" ∷
    codes "section{padding:4px 12px;border-top:1px solid var(--line)}\n" ∷
    codes "nav{padding:8px 12px}nav input[type=range]{width:100%}\n" ∷
    codes "#drawing{position:relative}\n" ∷
    codes "#here{position:absolute;left:0;height:18px;background:var(--here);opacity:.3;" ∷
    codes "pointer-events:none}\n" ∷
    codes "#tip{position:fixed;max-width:90vw;padding:4px 8px;font-size:13px;" ∷
    codes "white-space:pre-wrap}\n" ∷
    codes "#tip{color:var(--ink);background:var(--new);border:1px solid var(--ink);" ∷
    codes "pointer-events:none}\n" ∷
    codes ".hit{stroke:transparent;stroke-width:9;pointer-events:stroke}.over{stroke-width:3}\n" ∷
    codes ".steps{display:flex;height:100vh}.steps #drawing{overflow:auto;flex:0 1 auto;" ∷
    codes "cursor:pointer}\n" ∷
    codes ".steps #drawing svg{display:block}.later,#done,#state,#calls{padding:0 12px}\n" ∷
    codes ".steps #states{overflow:auto;flex:1 0 340px}.steps section{display:none}\n" ∷
    codes ".steps section.now{display:block}.alone #drawing svg,.alone #here{display:none}\n" ∷
    codes "#state{overflow-x:auto}#done{content-visibility:auto}\n" ∷
    codes "mark{color:inherit;background:var(--new)}table{border-collapse:collapse;" ∷
    codes "font-size:12px;margin:8px 0}\n" ∷
    codes "caption{text-align:left;padding:2px 0;white-space:nowrap}tr.now{" ∷
    codes "background:var(--new)}\n" ∷
    codes "th,td{border:1px solid var(--line);padding:2px 6px;text-align:left;" ∷
    codes "font-weight:normal}\n" ∷
    codes "td.applied{background:var(--line)}td.applied mark{outline:1px solid}\n" ∷
    codes ".b1{color:#0072b2}.b2{color:#a85400}.b3{color:#00804f}.b4{color:#8e44ad}\n" ∷
    codes ".b5{color:#8a5a00}.b6{color:#b83a80}.b7{color:#5c6b00}\n" ∷
    codes "@media(prefers-color-scheme:dark){\n" ∷
    codes ".b1{color:#5ab4ec}.b2{color:#f0a050}.b3{color:#45c792}.b4{color:#cb8fe6}\n" ∷
    codes ".b5{color:#d9a441}.b6{color:#ee8cc0}.b7{color:#b3c43a}}\n" ∷
    codes "@media(max-width:899px){.steps{flex-direction:column}\n" ∷
    codes ".steps #drawing{flex:0 1 45vh}.steps #states{flex:1 1 55vh}}\n" ∷
    codes "@media print{nav,#here,#tip,.later,#done,#state,#calls{display:none}\n" ∷
    codes ".steps{display:block;height:auto}.steps #drawing,.steps #states{overflow:visible}\n" ∷
    codes ".steps section{display:block}.alone #drawing svg{display:block}}\n" ∷
    codes "</style></head><body>\n" ∷
    codes "<div id='drawing'>\n" ∷
    [])

-- what is between the drawing and the switch to calls and replies: the choice of moments
abbrev pub after_drawing : List ℕ
after_drawing = concat (
    codes "<div id='here' hidden></div><div id='calls' hidden></div></div>\n" ∷
    codes "<div id='states' tabindex='0'><nav hidden>Moment <output id='count'></output>:\n" ∷
    codes "arrow keys, the slider or a click on the drawing choose one of\n" ∷
    codes "<select id='kept' aria-label='which moments'><option value=''>all " ∷
    codes "moments</option></select>\n" ∷
    codes "<label><input type='checkbox' id='alone'" ∷
    [])

-- what says whether the switch is on
abbrev pub switch_text : Form → List ℕ
switch_text Calls = codes " checked"
switch_text _ = []

-- what is between the switch and the first section: the slider
abbrev pub after_switch : List ℕ
after_switch = concat (
    codes ">calls and replies alone</label>\n" ∷
    codes "<input type='range' id='slider' min='1' value='1' aria-label='moment'></nav>\n" ∷
    codes "<div id='state'></div>\n" ∷
    [])

-- what is after the last section: the script, which shows one section at a time
abbrev pub after_sections : List ℕ
after_sections = concat (
    codes "<h2 class='later' hidden>done so far</h2><pre id='done'></pre></div>\n" ∷
    codes "<div id='tip' hidden></div>\n" ∷
    codes "<script>\n" ∷
    codes "(function(){\n" ∷
    codes "var sections=[].slice.call(document.querySelectorAll('section')),now=0;\n" ∷
    codes "var newline=String.fromCharCode(10);\n" ∷
    codes "function part(name){return document.getElementById(name)}\n" ∷
    codes "function plain(tag,text,look){\n" ∷
    codes "var it=document.createElement(tag);\n" ∷
    codes "it.textContent=text;\n" ∷
    codes "if(look)it.className=look;\n" ∷
    codes "return it;\n" ∷
    codes "}\n" ∷
    codes "function under(text,heading){\n" ∷
    codes "var lines=text.split(newline),at=lines.indexOf(heading),found=[];\n" ∷
    codes "if(at<0)return found;\n" ∷
    codes "for(at++;at<lines.length&&!/^(delivered|sent|nodes|tasks):$/.test(lines[at]);at++)\n" ∷
    codes "if(lines[at])found.push(lines[at]);\n" ∷
    codes "return found;\n" ∷
    codes "}\n" ∷
    codes "var moments=sections.map(function(it){\n" ∷
    codes "var said=it.querySelector('p').cloneNode(true),text=it.querySelector('pre')" ∷
    codes ".textContent;\n" ∷
    codes "var actor=said.removeChild(said.firstChild).textContent;\n" ∷
    codes "var title=it.querySelector('h2').textContent.replace(/^[0-9]+: /,'');\n" ∷
    codes "var kind=title.replace(/^m[0-9]+ [^ ]+ /,'').split(' ')[0];\n" ∷
    codes "return {y:+it.dataset.y,number:it.id.slice(7),title:title,kind:kind,\n" ∷
    codes "actor:actor,deed:said.textContent.trim(),said:text,text:text};\n" ∷
    codes "});\n" ∷
    codes "function before(n){while(n-->0)if(moments[n].said)return moments[n].said;return " ∷
    codes "''}\n" ∷
    codes "var names=new Map();\n" ∷
    codes "function note(words,name){if(!names.has(words))names.set(words,name)}\n" ∷
    codes "function noteCall(it){\n" ∷
    codes "var call=it.title.match(/^(call|arm|disarm) [^ ]+ [0-9]+ ([^ ]+)( -?[0-9]+)?$/);\n" ∷
    codes "var asked=(under(it.said,'sent:')[1]||'').match(/: ([a-z ]+[0-9]+ of object " ∷
    codes "[0-9]+), argument /);\n" ∷
    codes "if(call&&asked)note(asked[1],call[1]=='call'?call[2]:call[1]+' '+call[2]);\n" ∷
    codes "}\n" ∷
    codes "function noteInterrupt(it,n){\n" ∷
    codes "var noted=it.title.match(/^irq [0-9]+ ([^ ]+) ([0-9]+)$/),old=under(before(n)," ∷
    codes "'nodes:');\n" ∷
    codes "if(!noted)return;\n" ∷
    codes "under(it.said,'nodes:').forEach(function(line){\n" ∷
    codes "var item=line.match(/^  pending: (interrupt [0-9]+), occurrence ([0-9]+)$/);\n" ∷
    codes "if(item&&item[2]==noted[2]&&old.indexOf(line)<0)note(item[1],'interrupt " ∷
    codes "'+noted[1]);\n" ∷
    codes "});\n" ∷
    codes "}\n" ∷
    codes "moments.forEach(function(it,n){\n" ∷
    codes "under(it.said,'tasks:').forEach(function(line,i){note('task '+(i+1),line.split(' " ∷
    codes "')[1])});\n" ∷
    codes "noteCall(it);\n" ∷
    codes "noteInterrupt(it,n);\n" ∷
    codes "});\n" ∷
    codes "function named(text){\n" ∷
    codes "var numbers=/[a-z]+( of timer)? [0-9]+ of object [0-9]+|(interrupt|task) [0-9]+/g;\n" ∷
    codes "return text.replace(numbers,function(it){return names.get(it)||it});\n" ∷
    codes "}\n" ∷
    codes "function rename(at,text){if(named(text)!=text)at.textContent=named(text)}\n" ∷
    codes "moments.forEach(function(it,n){\n" ∷
    codes "var deed=sections[n].querySelector('p').lastChild;\n" ∷
    codes "it.text=named(it.said);\n" ∷
    codes "it.deed=named(it.deed);\n" ∷
    codes "rename(sections[n].querySelector('pre'),it.said);\n" ∷
    codes "rename(deed,deed.textContent);\n" ∷
    codes "});\n" ∷
    codes "var learned=new Map();\n" ∷
    codes "moments.forEach(function(it,n){\n" ∷
    codes "var at=it.deed.match(/learned ([0-9]+)/),key=at&&it.actor+'/'+at[1];\n" ∷
    codes "if(at&&!learned.has(key))learned.set(key,n);\n" ∷
    codes "});\n" ∷
    codes "function done(n){\n" ∷
    codes "var lists=new Map(),i,it;\n" ∷
    codes "for(i=0;i<=n;i++){\n" ∷
    codes "it=moments[i];\n" ∷
    codes "if(it.actor&&it.deed){if(!lists.has(it.actor))lists.set(it.actor,[]);" ∷
    codes "lists.get(it.actor).push(it.deed)}\n" ∷
    codes "}\n" ∷
    codes "part('done').textContent=Array.from(lists.keys()).sort().map(function(it){\n" ∷
    codes "return it+': '+lists.get(it).join('; ');\n" ∷
    codes "}).join(newline);\n" ∷
    codes "}\n" ∷
    codes "function owned(lines){\n" ∷
    codes "var owner='';\n" ∷
    codes "return lines.map(function(it){\n" ∷
    codes "if(/^(node|task) /.test(it))owner=it.split(' ').slice(0,2).join(' ')+'/';\n" ∷
    codes "return owner+it;\n" ∷
    codes "});\n" ∷
    codes "}\n" ∷
    codes "function marked(n){\n" ∷
    codes "var heading='nodes:'+newline,text=moments[n].text,at=text.indexOf(heading)" ∷
    codes "+heading.length;\n" ∷
    codes "var old=new Set(owned(named(before(n)).split(newline)))," ∷
    codes "pre=sections[n].querySelector('pre');\n" ∷
    codes "var lines=text.slice(at).split(newline);\n" ∷
    codes "if(!n||at<heading.length||pre.dataset.marked)return;\n" ∷
    codes "pre.dataset.marked=1;\n" ∷
    codes "pre.textContent=text.slice(0,at);\n" ∷
    codes "owned(lines).forEach(function(it,i){\n" ∷
    codes "pre.appendChild(it&&!old.has(it)?plain('mark',lines[i])" ∷
    codes ":document.createTextNode(lines[i]));\n" ∷
    codes "if(i+1<lines.length)pre.appendChild(document.createTextNode(newline));\n" ∷
    codes "});\n" ∷
    codes "}\n" ∷
    codes "function drawn(title,rows,old){\n" ∷
    codes "var table=document.createElement('table'),was=new Map();\n" ∷
    codes "old.forEach(function(it){it.cells.forEach(function(cell){" ∷
    codes "was.set(it.name+'/'+cell.at,cell.text)})});\n" ∷
    codes "table.appendChild(plain('caption',title));\n" ∷
    codes "rows.forEach(function(it){\n" ∷
    codes "var row=table.appendChild(document.createElement('tr'));\n" ∷
    codes "row.appendChild(plain('th',it.name,it.look));\n" ∷
    codes "it.cells.forEach(function(cell){\n" ∷
    codes "var is=!old.length||!cell.text||was.get(it.name+'/'+cell.at)==cell.text;\n" ∷
    codes "var at=row.appendChild(plain('td',is?cell.text:'',cell.look));\n" ∷
    codes "if(!is)at.appendChild(plain('mark',cell.text));\n" ∷
    codes "});\n" ∷
    codes "});\n" ∷
    codes "return table;\n" ∷
    codes "}\n" ∷
    codes "function nodes(said){\n" ∷
    codes "var found=[],it;\n" ∷
    codes "under(said,'nodes:').forEach(function(line){\n" ∷
    codes "var word=line.match(/^(node [0-9]+) (stopped|applied ([0-9]+))/);\n" ∷
    codes "var at=line.match(/^  position ([0-9]+): bound ([0-9]+)(?:, last vote in ballot " ∷
    codes "([0-9]+))?/);\n" ∷
    codes "if(word)found.push(it={name:word[1],applied:word[3]===undefined?-1:+word[3],at:{}," ∷
    codes "most:0});\n" ∷
    codes "else if(at&&it){\n" ∷
    codes "it.at[at[1]]={bound:+at[2],vote:at[3]?+at[3]:0};\n" ∷
    codes "it.most=Math.max(it.most,+at[1]);\n" ∷
    codes "}\n" ∷
    codes "});\n" ∷
    codes "return found;\n" ∷
    codes "}\n" ∷
    codes "function place(it,i,n){\n" ∷
    codes "var at=it.at[i],key=it.name+'/'+i;\n" ∷
    codes "if(it.applied<0)return {text:'stopped'};\n" ∷
    codes "if(i<=it.applied)return {text:'applied',look:'applied'};\n" ∷
    codes "if(learned.has(key)&&learned.get(key)<=n)return {text:'learned',look:'applied'};\n" ∷
    codes "if(!at)return {text:''};\n" ∷
    codes "return {text:(at.vote?'voted '+at.vote+(at.bound>at.vote?', ':''):'')\n" ∷
    codes "+(at.bound>at.vote?'promised '+at.bound:''),look:'b'+at.bound%8};\n" ∷
    codes "}\n" ∷
    codes "function grid(said,n,first,last){\n" ∷
    codes "return nodes(said).map(function(it){\n" ∷
    codes "var cells=[],i,cell;\n" ∷
    codes "for(i=first;i<=last;i++){cell=place(it,i,n);cell.at=i;cells.push(cell)}\n" ∷
    codes "return {name:it.name,look:'b'+it.name.slice(5),cells:cells};\n" ∷
    codes "});\n" ∷
    codes "}\n" ∷
    codes "function longest(said){\n" ∷
    codes "var most=null,it=null;\n" ∷
    codes "under(said,'nodes:').forEach(function(line){\n" ∷
    codes "var node=line.match(/^node [0-9]+ applied ([0-9]+)/);\n" ∷
    codes "if(/^node /.test(line))it=node?{applied:+node[1],lines:[]}:null;\n" ∷
    codes "else if(it&&line.charAt(0)!=' ')it.lines.push(line);\n" ∷
    codes "if(it&&(!most||it.applied>most.applied))most=it;\n" ∷
    codes "});\n" ∷
    codes "return most||{applied:0,lines:[]};\n" ∷
    codes "}\n" ∷
    codes "function numbered(texts){return texts.map(function(it,i){return {at:i,text:it}})}\n" ∷
    codes "function queues(text){\n" ∷
    codes "var found=[],queue=/queue (?:([A-Za-z][A-Za-z0-9_]*) (?=none|task [0-9]+ call))" ∷
    codes "?(none|(?:task [0-9]+ call [0-9]+ arg -?[0-9]+ ?)+)/g;\n" ∷
    codes "text.replace(queue,function(all,name,callers){\n" ∷
    codes "found.push(name?'queue of '+name:'queue');\n" ∷
    codes "callers.replace(/none|task ([0-9]+) call ([0-9]+) arg (-?[0-9]+)/g,function(all," ∷
    codes "task,call,arg){\n" ∷
    codes "found.push(task?named('task '+task)+' waits, call '+call+', argument " ∷
    codes "'+arg:'nobody waits');\n" ∷
    codes "});\n" ∷
    codes "});\n" ∷
    codes "return found;\n" ∷
    codes "}\n" ∷
    codes "function objects(said){\n" ∷
    codes "return longest(said).lines.map(function(line){\n" ∷
    codes "var words=line.split(' ').filter(Boolean),kind=words.shift()," ∷
    codes "at=words.indexOf('queue');\n" ∷
    codes "var name=kind=='object'||kind=='timer'?words.shift():'';\n" ∷
    codes "if(kind!='object')return {name:name?kind+' '+name:kind," ∷
    codes "cells:numbered(kind=='timer'?[words.join(' ')]:words)};\n" ∷
    codes "at=words.indexOf('queue');\n" ∷
    codes "return {name:name,cells:numbered(at<0?words:words.slice(0,at)" ∷
    codes ".concat(queues(words.slice(at).join(' '))))};\n" ∷
    codes "});\n" ∷
    codes "}\n" ∷
    codes "function tasks(said){\n" ∷
    codes "return under(said,'tasks:').map(function(line){\n" ∷
    codes "var it=line.match(/^task ([^ ]+) replies ([0-9]+)(?:, the last to call [0-9]+: " ∷
    codes "([^,]+))?(?:, waits for call ([0-9]+): (.*))?$/);\n" ∷
    codes "if(!it)return {name:line,cells:[]};\n" ∷
    codes "return {name:it[1],cells:numbered([it[4]?'waits for call '+it[4]+': '+named(it[5])" ∷
    codes ":'waits for nothing',\n" ∷
    codes "it[2]+(it[2]=='1'?' reply':' replies'),it[3]?'the last: '+it[3]:''])};\n" ∷
    codes "});\n" ∷
    codes "}\n" ∷
    codes "function draw(n){\n" ∷
    codes "var said=moments[n].said||before(n),old=n?before(n):'',state=part('state'),most=0," ∷
    codes "first;\n" ∷
    codes "if(!moments[n].said)old=said;\n" ∷
    codes "state.textContent='';\n" ∷
    codes "nodes(said).forEach(function(it){most=Math.max(most,it.applied,it.most)});\n" ∷
    codes "first=Math.max(1,most-7);\n" ∷
    codes "if(most)state.appendChild(drawn('positions '+first+' to '+most,grid(said,n,first," ∷
    codes "most),grid(old,n-1,first,most)));\n" ∷
    codes "state.appendChild(drawn('objects, where most is applied',objects(said)," ∷
    codes "objects(old)));\n" ∷
    codes "state.appendChild(drawn('tasks',tasks(said),tasks(old)));\n" ∷
    codes "}\n" ∷
    codes "function changes(n){\n" ∷
    codes "var was=new Map();\n" ∷
    codes "objects(before(n)).forEach(function(it){it.cells.forEach(function(cell){" ∷
    codes "was.set(it.name+'/'+cell.at,cell.text)})});\n" ∷
    codes "return objects(moments[n].said).map(function(it){\n" ∷
    codes "var cells=it.cells.filter(function(cell){return was.get(it.name+'/'+cell.at)" ∷
    codes "!=cell.text});\n" ∷
    codes "return cells.length?it.name+' '+cells.map(function(cell){return cell.text})" ∷
    codes ".join(', '):'';\n" ∷
    codes "}).filter(Boolean).join('; ')||'changes nothing';\n" ∷
    codes "}\n" ∷
    codes "var told=null;\n" ∷
    codes "function tell(){\n" ∷
    codes "var most=0,actions=new Map(),found=[];\n" ∷
    codes "moments.forEach(function(it,n){\n" ∷
    codes "var at=it.deed.match(/learned ([0-9]+)/),reply=it.deed.match(/^reply [0-9]+ (.*)" ∷
    codes "$/);\n" ∷
    codes "var applied=it.said?longest(it.said).applied:most,fields=under(it.text," ∷
    codes "'delivered:')[1]||'';\n" ∷
    codes "var sent=(under(it.text,'sent:')[1]||'').match(/^  call ([0-9]+) of [^ ]+: (.*)$/)" ∷
    codes ";\n" ∷
    codes "if(at)actions.set(+at[1],fields.replace(/^  position [0-9]+, (ballot [0-9]+, )?/," ∷
    codes "''));\n" ∷
    codes "if(/^(call|arm|disarm|again) /.test(it.title)&&sent)\n" ∷
    codes "found.push({n:n,who:it.actor,what:it.kind+' '+sent[1]+': '+sent[2],did:''});\n" ∷
    codes "for(;most<applied;most++)\n" ∷
    codes "found.push({n:n,who:'position '+(most+1),what:actions.get(most+1)||''," ∷
    codes "did:most+1==applied?changes(n):''});\n" ∷
    codes "if(reply)found.push({n:n,who:it.actor,what:it.deed,did:''});\n" ∷
    codes "});\n" ∷
    codes "return found;\n" ∷
    codes "}\n" ∷
    codes "function alone(){\n" ∷
    codes "var table=document.createElement('table'),at=part('calls');\n" ∷
    codes "told=tell();\n" ∷
    codes "table.appendChild(plain('caption','Calls, the order of actions and what each did " ∷
    codes "to its object, and replies'));\n" ∷
    codes "told.forEach(function(it){\n" ∷
    codes "var row=table.appendChild(document.createElement('tr'));\n" ∷
    codes "[moments[it.n].number,it.who,it.what,it.did].forEach(function(text){" ∷
    codes "row.appendChild(plain('td',text))});\n" ∷
    codes "row.onclick=function(e){e.stopPropagation();show(it.n)};\n" ∷
    codes "it.row=row;\n" ∷
    codes "});\n" ∷
    codes "at.textContent='';\n" ∷
    codes "at.appendChild(table);\n" ∷
    codes "}\n" ∷
    codes "function isAlone(){return part('alone').checked}\n" ∷
    codes "function beside(n){\n" ∷
    codes "var last=null;\n" ∷
    codes "told.forEach(function(it){it.row.className='';if(it.n<=n)last=it});\n" ∷
    codes "if(last){last.row.className='now';last.row.scrollIntoView({block:'nearest'})}\n" ∷
    codes "}\n" ∷
    codes "function show(n){\n" ∷
    codes "var view=part('drawing'),height=view.clientHeight,y;\n" ∷
    codes "sections[now].className='';\n" ∷
    codes "now=Math.max(0,Math.min(sections.length-1,n));\n" ∷
    codes "y=moments[now].y-view.scrollTop;\n" ∷
    codes "if(!isAlone()&&(y<40||y>height-80))view.scrollTop=moments[now].y-height/2;\n" ∷
    codes "part('states').scrollTop=0;\n" ∷
    codes "sections[now].className='now';\n" ∷
    codes "part('slider').value=now+1;\n" ∷
    codes "part('count').textContent=moments[now].number+' of " ∷
    codes "'+moments[moments.length-1].number;\n" ∷
    codes "marked(now);\n" ∷
    codes "draw(now);\n" ∷
    codes "done(now);\n" ∷
    codes "part('here').style.top=moments[now].y+'px';\n" ∷
    codes "if(isAlone())beside(now);\n" ∷
    codes "try{history.replaceState(null,'','#'+sections[now].id)}catch(it){}\n" ∷
    codes "}\n" ∷
    codes "function wanted(n){\n" ∷
    codes "var it=part('kept').value;\n" ∷
    codes "if(isAlone()&&!told.some(function(it){return it.n==n}))return false;\n" ∷
    codes "return !it||moments[n].actor==it||'kind '+moments[n].kind==it;\n" ∷
    codes "}\n" ∷
    codes "function step(by){\n" ∷
    codes "var to=by<0?-1:1,n=now,at=now;\n" ∷
    codes "for(by=Math.abs(by);by>0&&n+to>=0&&n+to<sections.length;){n+=to;if(wanted(n)){" ∷
    codes "at=n;by--}}\n" ∷
    codes "show(at);\n" ∷
    codes "}\n" ∷
    codes "function choices(){\n" ∷
    codes "var seen=new Set();\n" ∷
    codes "moments.forEach(function(it){if(it.actor)seen.add(it.actor)});\n" ∷
    codes "moments.forEach(function(it){seen.add('kind '+it.kind)});\n" ∷
    codes "Array.from(seen).sort().forEach(function(it){\n" ∷
    codes "var choice=plain('option',it);\n" ∷
    codes "choice.value=it;\n" ∷
    codes "part('kept').appendChild(choice);\n" ∷
    codes "});\n" ∷
    codes "}\n" ∷
    codes "function parties(){\n" ∷
    codes "var found=new Map();\n" ∷
    codes "[].forEach.call(document.querySelectorAll('#drawing svg>text'),function(it){\n" ∷
    codes "if(+it.getAttribute('y')<moments[0].y)found.set(+it.getAttribute('x')," ∷
    codes "it.textContent.replace(/^node /,''));\n" ∷
    codes "});\n" ∷
    codes "return found;\n" ∷
    codes "}\n" ∷
    codes "function packet(way,at,lanes){\n" ∷
    codes "var from=moments[at.get(way[2]-15)],to=moments[at.get(way[4]-5)],lines,i;\n" ∷
    codes "if(to)lines=under(to.text,'delivered:');\n" ∷
    codes "if(lines&&lines.length)return lines.join(newline);\n" ∷
    codes "lines=from?under(from.text,'sent:'):[];\n" ∷
    codes "for(i=0;i<lines.length;i+=2)\n" ∷
    codes "if(to?lines[i]==to.title:lines[i].split(' ')[1].split('>')" ∷
    codes "[1]==lanes.get(2*way[3]-way[1]))\n" ∷
    codes "return lines[i]+newline+lines[i+1];\n" ∷
    codes "return to?to.title:'';\n" ∷
    codes "}\n" ∷
    codes "function arrows(){\n" ∷
    codes "var at=new Map(),lanes=parties(),tip=part('tip');\n" ∷
    codes "moments.forEach(function(it,n){at.set(it.y,n)});\n" ∷
    codes "[].slice.call(document.querySelectorAll('#drawing svg>path')).forEach(function(it)" ∷
    codes "{\n" ∷
    codes "var way=it.getAttribute('d').match(/^M([0-9]+) ([0-9]+)Q[0-9]+ [0-9]+ ([0-9]+) " ∷
    codes "([0-9]+)$/);\n" ∷
    codes "var said=way&&packet(way,at,lanes),hit;\n" ∷
    codes "if(!said)return;\n" ∷
    codes "hit=it.parentNode.insertBefore(it.cloneNode(false),it.nextSibling);\n" ∷
    codes "hit.setAttribute('class','hit');\n" ∷
    codes "hit.onmouseover=function(e){\n" ∷
    codes "it.classList.add('over');\n" ∷
    codes "tip.textContent=said;\n" ∷
    codes "tip.hidden=false;\n" ∷
    codes "tip.style.left=Math.min(e.clientX+12,innerWidth-tip.offsetWidth-8)+'px';\n" ∷
    codes "tip.style.top=Math.min(e.clientY+12,innerHeight-tip.offsetHeight-8)+'px';\n" ∷
    codes "};\n" ∷
    codes "hit.onmouseout=function(){it.classList.remove('over');tip.hidden=true};\n" ∷
    codes "});\n" ∷
    codes "}\n" ∷
    codes "function linked(){sections.forEach(function(it,n){if('#'+it.id==location.hash)" ∷
    codes "show(n)})}\n" ∷
    codes "if(!sections.length)return;\n" ∷
    codes "part('here').hidden=document.querySelector('nav')" ∷
    codes ".hidden=document.querySelector('.later').hidden=false;\n" ∷
    codes "part('here').style.width=document.querySelector('svg').getAttribute('width')+'px';\n" ∷
    codes "part('slider').max=sections.length;\n" ∷
    codes "part('slider').oninput=function(){show(this.value-1)};\n" ∷
    codes "function choose(){\n" ∷
    codes "if(isAlone())alone();\n" ∷
    codes "part('calls').hidden=!isAlone();\n" ∷
    codes "document.body.className=isAlone()?'steps alone':'steps';\n" ∷
    codes "show(now);\n" ∷
    codes "}\n" ∷
    codes "part('alone').onchange=choose;\n" ∷
    codes "part('drawing').onclick=function(e){\n" ∷
    codes "var y=e.clientY-document.querySelector('svg').getBoundingClientRect().top,n=0;\n" ∷
    codes "if(isAlone())return;\n" ∷
    codes "while(n+1<sections.length&&moments[n+1].y<=y)n++;\n" ∷
    codes "show(n);\n" ∷
    codes "};\n" ∷
    codes "document.onkeydown=function(e){\n" ∷
    codes "var keys={ArrowDown:1,ArrowRight:1,ArrowUp:-1,ArrowLeft:-1,PageDown:10,PageUp:-10," ∷
    codes "Home:-1/0,End:1/0};\n" ∷
    codes "var by=keys[e.key],at=document.activeElement;\n" ∷
    codes "if(!by||e.ctrlKey||e.altKey||e.metaKey||at==part('slider')||at==part('kept'))" ∷
    codes "return;\n" ∷
    codes "if(at==part('states')&&e.key!='ArrowLeft'&&e.key!='ArrowRight')return;\n" ∷
    codes "e.preventDefault();\n" ∷
    codes "step(by);\n" ∷
    codes "};\n" ∷
    codes "window.onhashchange=linked;\n" ∷
    codes "choices();\n" ∷
    codes "arrows();\n" ∷
    codes "var chosen=location.hash;\n" ∷
    codes "sections.forEach(function(it,n){if('#'+it.id==chosen)now=n});\n" ∷
    codes "choose();\n" ∷
    codes "window.onload=function(){part('states').scrollTop=0};\n" ∷
    codes "})();\n" ∷
    codes "</script></body></html>\n" ∷
    [])
